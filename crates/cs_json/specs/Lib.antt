pub mod FaultTexts
pub mod ReplyTokens
