-- A value that fits 64 bits with a sign is one that i64 holds.
-- Assumes nothing.
use Rattle.std.proofs.lemmas.Int.{to_z-of_z}

pub ruleset words = (to_z-of_z)
