use Rattle.std.proofs.Common.{rules, [], ◌∷◌, codes, Some, inl, inr, refl}
use Rattle.rmdsum.proofs.facts.worked_names.Goals as goal

pub returns : goal.returns
returns c = record {
  two = record {
    read = codes "a" ∷ codes "b" ∷ [];
    between = Some [];
    all = refl;
    follow = (Some (98 ∷ []), inl (refl, refl), search rules, (Some [], inr (search rules), search rules, refl));
    ends = search rules;
    last = search rules;
  };
  given = search rules;
  empty = record { read = _; between = _; all = refl; follow = (Some (0 ∷ 98 ∷ []), inl (refl, refl), search rules, refl); ends = search rules; last = search rules };
  input = record { read = _; between = _; all = refl; follow = (Some [], inr (search rules), search rules, refl); ends = search rules; last = search rules };
  is_input = search rules;
  unread = λ error. record { read = _; between = _; all = refl; follow = (Some (98 ∷ []), inl (refl, refl), search rules, refl); ends = search rules; last = search rules };
  read_on = search rules;
  unsplit = search rules;
  not_ended = search rules;
  dropped = search rules;
  not_input = search rules;
  its_input = search rules;
  nameless = search rules;
  other_number = search rules;
  uncounted = search rules;
}
