-- What the tag of a text under a key is.
pub mod Hmac
-- What an HMAC state is saved as.
pub mod Saved
-- What the key derived from a password and a salt is.
pub mod Pbkdf2
-- To what collisions two texts with the same tag lead.
pub mod MacCollisions
-- Worked examples of tags and of collisions.
pub mod Worked
-- Laws for callers.
pub mod Laws
