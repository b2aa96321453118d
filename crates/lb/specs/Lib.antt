pub mod Invocation
pub mod Works
pub mod Answers
pub mod Headline
pub mod Failures
