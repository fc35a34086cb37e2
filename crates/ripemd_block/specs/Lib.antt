-- The standard's definitions, and those of hash states: what has to be trusted.
pub mod Standard
pub mod States
-- What the authors published, and worked values of hash states, as facts of these definitions.
pub mod Published
-- Block functions whose states are not lists, over the lists that stand for these.
pub mod OverLists
-- Definitions of the code's own types, and laws that the code cites: proved, with no need to trust them.
pub mod Code
pub mod Laws
