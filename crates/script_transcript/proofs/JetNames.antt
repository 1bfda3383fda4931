-- How long the name of a reply is.
use Rattle.std.proofs.Common.{◌≤◌, length, lit≤}
use Rattle.jet_base.specs.JetName.{jet_name}
use Rattle.jet_base.specs.declared.replies.Jet.{Jet}
use Rattle.jet_base.specs.declared.replies.Jet.TheVariants as jet

pub length-jet_name : (reply : Jet) → length (jet_name reply) ≤ 40
length-jet_name jet.Success = lit≤ tt
length-jet_name jet.SeekNotEqual = lit≤ tt
length-jet_name jet.ColumnNull = lit≤ tt
length-jet_name jet.BufferTruncated = lit≤ tt
length-jet_name jet.OutOfMemory = lit≤ tt
length-jet_name jet.SessionInUse = lit≤ tt
length-jet_name jet.InvalidSesid = lit≤ tt
length-jet_name jet.InvalidTableId = lit≤ tt
length-jet_name jet.NoCurrentRecord = lit≤ tt
length-jet_name jet.RecordDeleted = lit≤ tt
length-jet_name jet.ColumnNotFound = lit≤ tt
length-jet_name jet.WriteConflict = lit≤ tt
length-jet_name jet.SessionWriteConflict = lit≤ tt
length-jet_name jet.LogSequenceEnd = lit≤ tt
length-jet_name jet.VersionStoreOutOfMemory = lit≤ tt
length-jet_name jet.InstanceUnavailable = lit≤ tt
length-jet_name jet.LogWriteFail = lit≤ tt
length-jet_name jet.OutOfSessions = lit≤ tt
length-jet_name jet.TransTooDeep = lit≤ tt
length-jet_name jet.NotInTransaction = lit≤ tt
length-jet_name jet.InTransaction = lit≤ tt
length-jet_name jet.ObjectNotFound = lit≤ tt
length-jet_name jet.TableInUse = lit≤ tt
length-jet_name jet.TableDuplicate = lit≤ tt
length-jet_name jet.OutOfObjectIDs = lit≤ tt
length-jet_name jet.ColumnDuplicate = lit≤ tt
length-jet_name jet.MultiValuedColumnMustBeTagged = lit≤ tt
length-jet_name jet.InvalidColumnType = lit≤ tt
length-jet_name jet.TableNotEmpty = lit≤ tt
length-jet_name jet.TooManyColumns = lit≤ tt
length-jet_name jet.ColumnInUse = lit≤ tt
length-jet_name jet.IndexDuplicate = lit≤ tt
length-jet_name jet.TooManyIndexes = lit≤ tt
length-jet_name jet.IndexHasPrimary = lit≤ tt
length-jet_name jet.CannotIndex = lit≤ tt
length-jet_name jet.IndexInvalidDef = lit≤ tt
length-jet_name jet.NullKeyDisallowed = lit≤ tt
length-jet_name jet.KeyTruncated = lit≤ tt
length-jet_name jet.KeyDuplicate = lit≤ tt
length-jet_name jet.IndexNotFound = lit≤ tt
length-jet_name jet.IndexMustStay = lit≤ tt
length-jet_name jet.OutOfCursors = lit≤ tt
length-jet_name jet.NoCurrentIndex = lit≤ tt
length-jet_name jet.KeyNotMade = lit≤ tt
length-jet_name jet.KeyIsMade = lit≤ tt
length-jet_name jet.InvalidBufferSize = lit≤ tt
length-jet_name jet.RecordNotFound = lit≤ tt
length-jet_name jet.InvalidBookmark = lit≤ tt
length-jet_name jet.AlreadyPrepared = lit≤ tt
length-jet_name jet.UpdateNotPrepared = lit≤ tt
length-jet_name jet.ColumnNotUpdatable = lit≤ tt
length-jet_name jet.BadItagSequence = lit≤ tt
length-jet_name jet.ColumnTooBig = lit≤ tt
length-jet_name jet.NullInvalid = lit≤ tt
length-jet_name jet.RecordTooBig = lit≤ tt
length-jet_name jet.RecordPrimaryChanged = lit≤ tt
length-jet_name jet.CheckpointCorrupt = lit≤ tt
length-jet_name jet.ReadVerifyFailure = lit≤ tt
length-jet_name jet.DatabaseCorrupted = lit≤ tt
length-jet_name jet.LogFileCorrupt = lit≤ tt
length-jet_name jet.DatabaseDuplicate = lit≤ tt
length-jet_name jet.ColumnRedundant = lit≤ tt
length-jet_name jet.OutOfAutoincrementValues = lit≤ tt
length-jet_name jet.InvalidParameter = lit≤ tt

pub ruleset names_of_replies = length-jet_name
