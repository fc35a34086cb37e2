-- The variants by number, and what calls do at one.
pub mod Variants
-- The bytes that hash states and HMAC states are kept as.
pub mod KeptBytes
-- What calls do with these states.
pub mod KeptStates
-- Keys derived from passwords.
pub mod Pbkdf2
-- Records that lie one after another, and what calls over records and lists write.
pub mod Records
-- Worked examples of these.
pub mod Worked
