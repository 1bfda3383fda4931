use Rattle.laws_engine.proofs.TableLemmas.ViewedRecords.{unseen_fit, very_viewed}
use Rattle.laws_engine.proofs.tables.viewed.a_reader_views_its_very_record.Goals as goal

pub returns-clause-very : goal.returns-clause-very
returns-clause-very c = very_viewed

pub returns-clause-amounts : goal.returns-clause-amounts
returns-clause-amounts c = unseen_fit
