-- The bytes that states are kept as.
pub mod KeptBytes
pub mod KeptHmac
-- What calls do with some values.
pub mod Working
