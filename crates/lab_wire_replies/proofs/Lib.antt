pub mod FloatLemmas
pub mod KnownReplies
mod KnownReplyParts
pub mod MemberLemmas
pub mod PartLemmas
pub mod ReplyLemmas
