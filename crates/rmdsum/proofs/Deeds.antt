-- Deeds of a run, one after another.
use Rattle.ripemd_files.proofs.Library.{◌≡◌, ◌≢◌, ◌<◌, ◌+◌, ℕ, Bool, true, ◌&&◌, List, [], ◌∷◌, ◌++◌, length, take, get_or, map, Option, Some, None, vec_items, Global, refl, inl, inr, sym, append_assoc, arith, Vec, is_none, and-true, append-nil, map-append, take_more}
use Rattle.ripemd_files.specs.declared.line.Variant.{Variant}
use Rattle.ripemd_files.specs.declared.list.Rules.{Rules}
use Rattle.ripemd_files.specs.declared.printing.Style.{Style}
use Rattle.ripemd_files.specs.declared.verdict.Options.{Options}
use Rattle.rmdsum.specs.Types.{Wrong, NameSource, Run, Work, Check, Print}
use Rattle.ripemd_files.specs.Said.{Adds}
use Rattle.rmdsum.specs.Runs.{AreRules, Deed, Item, Extends, IsOf, Handles, IsRun, Performs, items, handled, succeeded}
use Rattle.rmdsum.specs.Runs.Item.{Name}
use Rattle.rmdsum.specs.Runs.Deed.{Opens, Gets, Prints, Checks, Says}

adds_both : (a b c : Option (List Deed)) (xs ys : List Deed) → Adds a b xs → Adds b c ys → Adds a c (xs ++ ys)
adds_both a b c xs ys first second = grind (arith, append_assoc)

and_both : (a b c : Bool) → ((a && b) && c) ≡ (a && (b && c))
and_both a b c = grind arith

-- deeds are added that handle such items
abbrev Grows : Work → List Item → Bool → Option (List Deed) → Option (List Deed) → Type 0
Grows work items success a b = Extends a b (λ deeds. Handles work items deeds success)

both : (work : Work) (a b c : Option (List Deed)) (items more : List Item) (all others : Bool)
    → Grows work items all a b → Grows work more others b c → Grows work (items ++ more) (all && others) a c
both work a b c items more all others first second = (
  first.0 ++ second.0,
  adds_both a b c _ _ first.1 second.1,
  λ later deeds rest run. rw (and_both, append_assoc, append_assoc) (first.2 (more ++ later) _ _ (second.2 later deeds rest run)),
)

one_deed : (work : Work) (deed : Deed) (a b : Option (List Deed)) → IsOf work deed → Adds a b (deed ∷ [])
    → Grows work (handled deed) (succeeded deed) a b
one_deed work (Prints style names answer) a b of adds = (_, adds, λ later deeds rest run. (later, rest, of, refl, refl, run))
one_deed work (Checks rules options name answer) a b of adds = (_, adds, λ later deeds rest run. (later, rest, of, refl, refl, run))
one_deed work (Says wrong answer) a b of adds = (_, adds, λ later deeds rest run. (later, rest, of, refl, refl, run))
one_deed work _ a b of adds = absurd of

-- no names were printed
pub no_names : (work : Work) (a : Option (List Deed)) (names : List (Vec ℕ Global)) → length names ≡ 0
    → Grows work (map Name (map vec_items names)) true a a
no_names work None [] none = ([], tt, λ later deeds rest run. run)
no_names work (Some a) [] none = ([], sym (append-nil a), λ later deeds rest run. run)
no_names work a (name ∷ names) none = absurd (omega (arith, none))

-- or some were
pub some_names : (style : Style) (a b : Option (List Deed)) (names : List (Vec ℕ Global)) (answer : Bool) → ¬ (length names ≡ 0)
    → Adds a b (Prints style (map vec_items names) answer ∷ []) → Grows (Print style) (map Name (map vec_items names)) answer a b
some_names style a b [] answer some adds = absurd (some refl)
some_names style a b (name ∷ names) answer some adds = one_deed (Print style) (Prints style _ answer) a b (refl, λ none. cc none) adds

-- a list more was checked
pub one_list : (only : Option Variant) (options : Options) (a b c : Option (List Deed)) (names : List (Vec ℕ Global)) (i : ℕ)
    (name : Vec ℕ Global) (text : List ℕ) (rules : Rules) (success answer : Bool) → AreRules only text rules → i < length names → get_or names i name ≡ name → text ≡ vec_items name
    → Grows (Check only options) (map Name (map vec_items (take i names))) success a b
    → Adds b c (Checks rules options text answer ∷ [])
    → Grows (Check only options) (map Name (map vec_items (take (i + 1) names))) (success && answer) a c
one_list only options a b c names i name text rules success answer are within is read so_far next =
    let whole : Grows (Check only options) (map Name (map vec_items (take i names)) ++ Name text ∷ []) (success && answer) a c =
    both (Check only options) a b c _ _ _ _ so_far (one_deed (Check only options) (Checks rules options text answer) b c (are, refl) next) in
    rw (take_more names i name within, is, map-append, map-append) (rw read at whole)

-- a run that goes on after these deeds
abbrev pub Begins : Work → Option (List Deed) → Option (List Deed) → Bool → Type 0
Begins work a b success = Extends a b (λ deeds. (more : List Deed) (others : Bool) → IsRun work more others → IsRun work (deeds ++ more) (success && others))

-- some names more were handled
pub one_round : (work : Work) (a b c d e : Option (List Deed)) (names : List (List ℕ)) (wrong : Option Wrong) (success done sound : Bool)
    → items names wrong ≢ [] → Begins work a b success → Adds b c (Gets names wrong ∷ []) → Grows work (map Name names) done c d
    → Adds d e (Says wrong sound ∷ []) → sound ≡ is_none wrong → Begins work a e ((success && done) && sound)
one_round work a b c d e names wrong success done sound some so_far gave took told is =
    let (deeds, adds, handles) = both work c d e _ _ _ _ took (one_deed work (Says wrong sound) d e is told) in (
      so_far.0 ++ Gets names wrong ∷ deeds,
      rw append_assoc at (adds_both a c e _ _ (adds_both a b c _ _ so_far.1 gave) adds),
      λ more others run.
          rw (and_both, and_both, append_assoc) (so_far.2 (Gets names wrong ∷ (deeds ++ more)) (done && (sound && others)) (
            refl,
            inr (
              some,
              rw (append-nil, and_both) at (handles [] more others run),
            ),
          )),
    )

-- no more names come
pub ended : (work : Work) (a b c : Option (List Deed)) (names : List (Vec ℕ Global)) (wrong : Option Wrong) (success : Bool)
    → length names ≡ 0 → is_none wrong ≡ true → Begins work a b success → Adds b c (Gets (map vec_items names) wrong ∷ [])
    → Extends a c (λ deeds. IsRun work deeds success)
ended work a b c [] None success none nothing so_far gave =
    (_, adds_both a b c _ _ so_far.1 gave, rw and-true at (so_far.2 (Gets [] None ∷ []) true (refl, inl (refl, refl, refl))))
ended work a b c [] (Some wrong) success none nothing so_far gave = cc nothing
ended work a b c (name ∷ names) wrong success none nothing so_far gave = absurd (omega arith)

-- something comes
pub something : (names : List (Vec ℕ Global)) (wrong : Option Wrong) → ¬ ((length names ≡ 0) × (is_none wrong ≡ true))
    → items (map vec_items names) wrong ≢ []
something [] wrong some = grind arith
something (name ∷ names) wrong some = λ none. cc none

-- what has the names was opened, and a run went over them
pub opened : (work : Work) (names : NameSource) (progress : Bool) (a b c : Option (List Deed)) (success : Bool)
    → Adds a b (Opens names progress true ∷ []) → Extends b c (λ deeds. IsRun work deeds success)
    → Extends a c (λ deeds. Performs (Run work names progress) deeds success)
opened work names progress a b c success opens run = (_, adds_both a b c _ _ opens run.1, inr (run.0, refl, run.2))
