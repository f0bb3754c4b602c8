pub mod Digits
pub mod Hmac
pub mod Pbkdf2
pub mod Verifiers
pub mod Words
pub mod Private
