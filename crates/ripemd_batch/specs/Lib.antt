-- Keys derived from passwords, and what the lanes of vectors stand for.
pub mod Pbkdf2
pub mod Lanes
-- What callers cite.
pub mod Laws
