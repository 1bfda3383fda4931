pub mod IndexLemmas
pub mod ChangeLemmas
pub mod HistoryLemmas
pub mod SumLemmas
pub mod KeyLemmas
pub mod RecordLemmas
