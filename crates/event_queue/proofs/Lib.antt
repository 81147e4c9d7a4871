-- Lemmas on the queue and on runs.
pub mod QueueLemmas
pub mod HistoryLemmas
