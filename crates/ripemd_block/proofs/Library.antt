-- What proofs cite of the library, passed on from one place. Declares nothing.
pub use Rattle.std.proofs.Common.{All, Bool, Bor, Err, Fits, Global, IfErr, IfOk, IfSome, IsErr, IsFalse, IsNone, IsOk, IsSomeAnd, IsTrue, List, MatchBool, MatchOption, MatchResult, None, Ok, OnErr, OnOk, Option, Result, Some, Vec, [], add-one, ap, append-nil, append_assoc, ap₂, arith, below_more, bit_and, bit_or, bit_xor, codes, cond, drop, drop-drop, drop_at, eqb, false, get_or, inl, inr, is_none, is_some, le-mul_of_pos_right, length, length-append, length-drop, length-set, length-take, length-take-le, lt_of_mul-lt-mul_right, map, map-id, min, mod-eq_of_lt, mul-le-mul_left, mul-le-mul_right, nat_eq, ne_eqb, option_map, refl, replicate, reverse, rules, set, slice_get, slice_index, slice_set, string_bytes, subst, suc, suc-mul, sym, take, take-add, take-append-drop, take_all, take_at, true, unwrap_or, vec_items, w64, w8, zero, zero-add, ℕ, ◌%◌, ◌&&◌, ◌*◌, ◌++◌, ◌+◌, ◌-◌, ◌/◌, ◌<◌, ◌==◌, ◌^◌, ◌↔◌, ◌∙◌, ◌∷◌, ◌≡◌, ◌≢◌, ◌≤◌, ◌⊎◌}
pub use Rattle.std.proofs.KnownBytes.{Consumes-nil, Consumes-trans}
pub use Rattle.std.proofs.Math.Bool.{and-true, and_assoc}
pub use Rattle.std.proofs.Math.Nat.{div-mul-le_self, mul-div_left}
pub use Rattle.std.proofs.Math.Path.{fun_ext}
pub use Rattle.std.proofs.Math.Seq.{drop-append-add, drop-append-le, drop-append_seam, take-append-add, take-append_seam}
pub use Rattle.std.proofs.lemmas.Bool.{and_parts, cases_Bool, cases_lt, cases_order, false≢true, le-leb, lt-leb}
pub use Rattle.std.proofs.lemmas.Bool.Decides.{eqb_tells, nat_tests}
pub use Rattle.std.proofs.lemmas.Grind.{div_ceil_times, flat_map-append}
pub use Rattle.std.proofs.lemmas.Iterator.Adapters.{YieldsList-from_vec}
pub use Rattle.std.proofs.lemmas.Iterator.Consumers.{YieldsList-turn}
pub use Rattle.std.proofs.lemmas.List.{append_cancel_left, drop-map, drop-replicate, drop-take, drop_all, drop_more, get_or-append_right, get_or-map, get_or_append_left, get_or_at, get_or_default, length-map, length-replicate, map-append, map-set, nil_from_length, replicate-append-replicate, reverse-append, same_lists, set_at, take-append-le, take-map, take-replicate, take-take, take_min, take_more, take_more_set, take_rest}
pub use Rattle.std.proofs.lemmas.List.Edits.{map_over_more}
pub use Rattle.std.proofs.lemmas.List.Elements.{All-append, All-get_or, All-push, All-replicate, All-weaker}
pub use Rattle.std.proofs.lemmas.List.Folds.{flat_map-map, list_all-append, list_any-append, list_any_at, list_any_none}
pub use Rattle.std.proofs.lemmas.List.FromFn.{fill_by_all, get_or-map-range_with_len, length-map-range_with_len, length-range_with_len, map-range_with_len_more}
pub use Rattle.std.proofs.lemmas.List.Sums.{AllPass-from_list_all, fold-append, fold_more, list_all-from_AllPass}
pub use Rattle.std.proofs.lemmas.Nat.{and_comm, and_le_l, and_le_r, and_mask, div-mul-add, from_le_bytes-to_le_bytes_4, le_or_l, le_or_r, mod-mul-add, mul-add-lt, or_disjoint, or_of_32, xor_comm, xor_mod, xor_of_32, xor_shr}
pub use Rattle.std.proofs.lemmas.Nat.Bits.{bit_at-lt, bit_at-zero, bit_at_and, bit_at_not, bit_at_or, bit_at_xor, same_from_bits_below}
pub use Rattle.std.proofs.lemmas.Option.{none-some, option_and_then_some, same_Some, slice_get-get_or, slice_get_past, slice_get_read}
pub use Rattle.std.proofs.lemmas.Result.{IfErr-weaker, IfOk-at_ok, IfOk-weaker}
pub use Rattle.std.proofs.lemmas.Simd.{Each1-from_get_or, Each2-of, below_from_Fits, chunk-fits, get_or-zip2, get_or_wider, length-chunk, length-zip2, zip2-map, zip2_splat}
pub use Rattle.std.proofs.lemmas.Slice.Eq.{bytes_eq-Decides}
pub use Rattle.std.proofs.lemmas.Slice.Zip.{AllZip-long, all_zipped_more}
unfoldable pub use Rattle.std.specs.Fmt.{digits}
pub use Rattle.std.specs.Fn.{iterate}
pub use Rattle.std.specs.Int.{bit_not, div_ceil, from_le_bytes, to_le_bytes, w32}
pub use Rattle.std.specs.Int.Bits.{or_zero_l, xor_assoc, xor_self, xor_zero_l, xor_zero_r}
pub use Rattle.std.specs.Io.{StopsAt, appended_bytes}
pub use Rattle.std.specs.Io.BufRead.{DropsThrough, drop_through, ends_with_byte, strip_last, take_through}
pub use Rattle.std.specs.Io.KnownBytes.{Consumes, IsAtEnd}
pub use Rattle.std.specs.List.{AllZip, flat_map, fold, list_all, list_any, range_with_len}
pub use Rattle.std.specs.Option.{option_or}
pub use Rattle.std.specs.Simd.{first_chunks}
pub use Rattle.std.specs.Simd.Lanes.{chunk, zip2}
pub use Rattle.std.specs.Str.{bytes_eq}
pub use borrow.Rule.Slice.PartMut.{post_of, put_mid}
pub use lib.Lanes.{Each1, digits_l, number_l}
