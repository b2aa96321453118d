pub mod OneAfterAnother
