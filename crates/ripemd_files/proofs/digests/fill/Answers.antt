use Rattle.ripemd_block.proofs.Library.{◌≡◌, ℕ, ◌+◌, ◌≤◌, List, ◌++◌, length, take, rules, sym, ap, ◌∙◌, length-take-le, take-append-le, take-append-add, put_mid, post_of, Consumes-trans}
use Rattle.ripemd_files.proofs.digests.fill.Goals as goal

-- what is written to a list from a place on stands after what was there before
written_behind : (place room n : ℕ) (xs ys : List ℕ) → place ≤ length xs → n ≤ length ys
    → take (place + n) (put_mid place room xs ys) ≡ take place xs ++ take n ys
written_behind place room n xs ys within fits =
    let front = length-take-le place xs within in
    ap (λ (p : ℕ). take (p + n) (put_mid place room xs ys)) (sym front)
    ∙ take-append-add (take place xs) (ys ++ post_of place room xs) n
    ∙ ap (λ (l : List ℕ). take place xs ++ l) (take-append-le n ys (post_of place room xs) fits)

pub loop-count-preserved : goal.loop-count-preserved
loop-count-preserved g c = record {
  same = search rules;
  within = search rules;
  taken = rw (written_behind c.loop-count.count _ c.in_ok-more.more c.loop-count.buffer c.read.new.buffer c.loop-count.invariant.within
      c.in_ok-more.ensures.bound.0)
      (Consumes-trans _ _ _ _ _ c.loop-count.invariant.taken c.in_ok-more.ensures.bytes.0);
  readable = search rules;
}
