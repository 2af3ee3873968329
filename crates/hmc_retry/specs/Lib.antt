pub mod RetryBuffer
