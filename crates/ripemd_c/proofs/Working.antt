-- From what a definition says that a call does to what it does with some values.
use Rattle.std.proofs.Common.{◌≡◌, ℕ, List, IsTrue, IsFalse, Bool, true, false, rules, ap, ◌∙◌}
use Rattle.ripemd.specs.Published.{hexadecimal}
use Rattle.ripemd_c.specs.Variants.{Writes, Refuses}

-- what fits is written
pub written : {Fits : Type 0} {output old new wanted : List ℕ} {done : Bool} → Fits → hexadecimal output ≡ wanted
    → Writes Fits output old new done → IsTrue done × (hexadecimal new ≡ wanted)
written fits is writes = let yes = writes.fits.1 fits in (yes, ap hexadecimal (writes.written yes) ∙ is)

-- and what does not is refused
pub refused : {Fits : Type 0} {output old new : List ℕ} (done : Bool) → ¬ Fits → Writes Fits output old new done
    → Refuses old new done
refused true unfit writes = absurd (unfit (writes.fits.0 (search rules)))
refused false unfit writes = (search rules, writes.unchanged (search rules))

-- nor are bytes taken for others that differ in this number
pub differs : {a b : List ℕ} (of : List ℕ → ℕ) (answer : Bool) → (IsTrue answer → a ≡ b) → ¬ (of a ≡ of b) → IsFalse answer
differs of true same apart = absurd (apart (ap of (same (search rules))))
differs of false same apart = search rules
