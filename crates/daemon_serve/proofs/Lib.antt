pub mod LastMember
pub mod Outcome
pub mod Standing
pub mod WholeRequests
pub mod ReplyPuts
pub mod RequestReads
pub mod WholeServing
pub mod PeerAnswers
