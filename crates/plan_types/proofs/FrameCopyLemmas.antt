-- What is said of columns depends on their names, types and values alone.
use Rattle.std.proofs.Common.{◌≡◌, ℕ, ◌==◌, List, [], ◌∷◌, ◌++◌, length, map, cond, Some, is_none, true, refl, sym, ap, ◌∙◌, slice_get, unwrap_or}
use Rattle.std.specs.List.{range_with_len}
use Rattle.plan_types.specs.Types.{Ty, ty}
use Rattle.plan_types.specs.Schemas.{Name, is_among}
use Rattle.plan_types.specs.Values.{Val, NullValue}
use Rattle.plan_types.specs.FrameFaults.{shown, repeated_name, other_length, misfit_from, misfit, else_fault, frame_fault, vals_of, framed, heads_of, height_of, count_of, row_of}
use Rattle.plan_types.specs.declared.column.Column.{Column}
use Rattle.plan_types.specs.declared.frame.FrameError.TheVariants.{Duplicate, Length}
use Rattle.plan_types.proofs.ListLemmas.{map-map}

same_front : (c d : Column) (cs ds : List Column) → map shown (c ∷ cs) ≡ map shown (d ∷ ds) → shown c ≡ shown d
same_front c d cs ds e = cc

same_behind : (c d : Column) (cs ds : List Column) → map shown (c ∷ cs) ≡ map shown (d ∷ ds) → map shown cs ≡ map shown ds
same_behind c d cs ds e = cc

same_count : (c d : Column) → shown c ≡ shown d → count_of c ≡ count_of d
same_count c d e = ap (λ s. length s.1) e

same_names : (before : List Name) (cs ds : List Column) → map shown cs ≡ map shown ds → repeated_name before cs ≡ repeated_name before ds
same_names before [] [] e = refl
same_names before [] (d ∷ ds) e = cc
same_names before (c ∷ cs) [] e = cc
same_names before (c ∷ cs) (d ∷ ds) e =
    let front = same_front c d cs ds e in
    ap (λ s. cond (is_among s.0.0 before) (Some (Duplicate s.0.0)) (repeated_name (before ++ s.0.0 ∷ []) cs)) front ∙ ap (cond (is_among d.name before) (Some (Duplicate d.name))) (same_names (before ++ d.name ∷ []) cs ds (same_behind c d cs ds e))

same_lengths : (wanted : ℕ) (cs ds : List Column) → map shown cs ≡ map shown ds → other_length wanted cs ≡ other_length wanted ds
same_lengths wanted [] [] e = refl
same_lengths wanted [] (d ∷ ds) e = cc
same_lengths wanted (c ∷ cs) [] e = cc
same_lengths wanted (c ∷ cs) (d ∷ ds) e =
    let front = same_front c d cs ds e in
    let name = ap (λ s. cond (count_of c == wanted) (other_length wanted cs) (Some (Length s.0.0 (count_of c) wanted))) front in
    let count = ap (λ n. cond (n == wanted) (other_length wanted cs) (Some (Length d.name n wanted))) (same_count c d front) in
    name ∙ count ∙ ap (λ r. cond (count_of d == wanted) r (Some (Length d.name (count_of d) wanted))) (same_lengths wanted cs ds (same_behind c d cs ds e))

same_misfit : (cs ds : List Column) → map shown cs ≡ map shown ds → misfit cs ≡ misfit ds
same_misfit [] [] e = refl
same_misfit [] (d ∷ ds) e = cc
same_misfit (c ∷ cs) [] e = cc
same_misfit (c ∷ cs) (d ∷ ds) e =
    ap (λ s. else_fault (misfit_from 0 s.0.0 s.0.1 s.1) (misfit cs)) (same_front c d cs ds e) ∙ ap (else_fault (misfit_from 0 d.name (ty d.dtype) (vals_of d.values))) (same_misfit cs ds (same_behind c d cs ds e))

same_height : (cs ds : List Column) → map shown cs ≡ map shown ds → height_of cs ≡ height_of ds
same_height [] [] e = refl
same_height [] (d ∷ ds) e = cc
same_height (c ∷ cs) [] e = cc
same_height (c ∷ cs) (d ∷ ds) e = same_count c d (same_front c d cs ds e)

same_fault : (cs ds : List Column) → map shown cs ≡ map shown ds → frame_fault cs ≡ frame_fault ds
same_fault cs ds e =
    let lengths = ap (λ n. other_length n cs) (same_height cs ds e) ∙ same_lengths (height_of ds) cs ds e in
    ap (λ f. else_fault f (else_fault (other_length (height_of cs) cs) (misfit cs))) (same_names [] cs ds e) ∙ ap (λ f. else_fault (repeated_name [] ds) (else_fault f (misfit cs))) lengths ∙ ap (λ f. else_fault (repeated_name [] ds) (else_fault (other_length (height_of ds) ds) f)) (same_misfit cs ds e)

same_heads : (cs ds : List Column) → map shown cs ≡ map shown ds → heads_of cs ≡ heads_of ds
same_heads cs ds e = sym (map-map (λ s. s.0) shown cs) ∙ ap (map (λ s. s.0)) e ∙ map-map (λ s. s.0) shown ds

abbrev value_at : ℕ → (Name × Ty) × List Val → Val
value_at number s = unwrap_or (slice_get s.1 number) NullValue

same_row : (cs ds : List Column) (number : ℕ) → map shown cs ≡ map shown ds → row_of cs number ≡ row_of ds number
same_row cs ds number e = sym (map-map (value_at number) shown cs) ∙ ap (map (value_at number)) e ∙ map-map (value_at number) shown ds

same_rows : (cs ds : List Column) (numbers : List ℕ) → map shown cs ≡ map shown ds → map (row_of cs) numbers ≡ map (row_of ds) numbers
same_rows cs ds [] e = refl
same_rows cs ds (number ∷ numbers) e =
    ap (λ row. row ∷ map (row_of cs) numbers) (same_row cs ds number e) ∙ ap (λ rows. row_of ds number ∷ rows) (same_rows cs ds numbers e)

-- columns that show the same are the same frame
pub same_framed : (cs ds : List Column) → map shown cs ≡ map shown ds → framed cs ≡ framed ds
same_framed cs ds e =
    let rows = same_rows cs ds (range_with_len 0 (height_of cs)) e ∙ ap (λ n. map (row_of ds) (range_with_len 0 n)) (same_height cs ds e) in
    ap (λ heads. record { schema = heads; rows = map (row_of cs) (range_with_len 0 (height_of cs)) }) (same_heads cs ds e) ∙ ap (λ rows. record { schema = heads_of ds; rows = rows }) rows

-- and nothing keeps a copy of a frame's columns from being one
pub sound_copy : (cs ds : List Column) → map shown cs ≡ map shown ds → is_none (frame_fault ds) ≡ true → is_none (frame_fault cs) ≡ true
sound_copy cs ds e h = ap is_none (same_fault cs ds e) ∙ h
