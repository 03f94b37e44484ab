mod FieldLemmas
mod DigitLemmas
mod TokenLemmas
mod FormatLemmas
mod MachineLemmas
mod ReaderLemmas
mod StageLemmas
pub mod SpellingLemmas
mod SpelledLemmas
mod ImageLaws
mod FirmLemmas
pub mod TreeLemmas
mod WriterLemmas
mod ShortJobs
mod ReplySpelling
mod ReplySpelled
mod ReplyEnds
mod ReplyStageLemmas
mod EndLemmas
pub mod DaemonLemmas
