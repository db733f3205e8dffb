-- Entries that are stored in two lists.
use Rattle.std.proofs.Common.{◌≡◌, ℕ, zero, suc, ◌+◌, ◌*◌, ◌<◌, ◌≤◌, List, [], ◌∷◌, ◌++◌, length, take, drop, refl, sym, ap, ap₂, ◌∙◌, arith, slice_index_or}
use Rattle.std.proofs.Common.{slice_set, append_assoc, length-take-le, length-drop, replicate, Option, None}
use Rattle.std.proofs.Math.Seq.{take-add, take-append_seam, drop-append_seam}
use Rattle.measures.proofs.Stored.{row_fits}
use Rattle.evidence.specs.Evidence.{Entry}
use Rattle.evidence.specs.View.{Entries, entries_of, entry_of}
use Rattle.evidence.specs.declared.entries.EntryPlace.{EntryPlace}
use Rattle.evidence.specs.declared.entries.EntryPlace.TheVariants.{Outside}

pub places_long : (w : ℕ) (places : List EntryPlace) (cs : List ℕ) → length (entries_of w places cs) ≡ length places
places_long w [] cs = refl
places_long w (p ∷ places) cs = ap suc (places_long w places (drop w cs))

drop_more : (n m : ℕ) (xs : List ℕ) → drop (n + m) xs ≡ drop m (drop n xs)
drop_more zero m xs = let e : 0 + m ≡ m = omega arith in ap (λ k. drop k xs) e
drop_more (suc n) m [] = let e : suc n + m ≡ suc (n + m) = omega arith in ap (λ k. drop {A = ℕ} k []) e ∙ sym (none m)
  where
    none : (k : ℕ) → drop {A = ℕ} k [] ≡ []
    none zero = refl
    none (suc k) = refl
drop_more (suc n) m (x ∷ xs) = let e : suc n + m ≡ suc (n + m) = omega arith in ap (λ k. drop k (x ∷ xs)) e ∙ drop_more n m xs

places_at : (w : ℕ) (places : List EntryPlace) (cs : List ℕ) (v : ℕ) (p d : EntryPlace) → v < length places → p ≡ slice_index_or places v d
    → slice_index_or (entries_of w places cs) v None ≡ entry_of p (take w (drop (v * w) cs))
places_at w [] cs v p d h e = absurd (omega arith)
places_at w (q ∷ places) cs zero p d h e = let z : 0 * w ≡ 0 = omega arith in ap₂ entry_of (sym e) (sym (ap (λ k. take w (drop k cs)) z))
places_at w (q ∷ places) cs (suc v) p d h e =
    let m : w + v * w ≡ suc v * w = omega arith in
    places_at w places (drop w cs) v p d (omega arith) e ∙ ap (λ xs. entry_of p (take w xs)) (sym (drop_more w (v * w) cs) ∙ ap (λ k. drop k cs) m)

places_set : (w : ℕ) (places : List EntryPlace) (cs : List ℕ) (v : ℕ) (p : EntryPlace) (c : List ℕ) → v < length places → length c ≡ w → length cs ≡ length places * w
    → entries_of w (slice_set places v p) (take (v * w) cs ++ (c ++ drop (v * w + w) cs)) ≡ slice_set (entries_of w places cs) v (entry_of p c)
places_set w [] cs v p c h e l = absurd (omega arith)
places_set w (q ∷ places) cs zero p c h e l =
    let z : 0 * w ≡ 0 = omega arith in
    let s : 0 * w + w ≡ w = omega arith in
    let list : take (0 * w) cs ++ (c ++ drop (0 * w + w) cs) ≡ c ++ drop w cs = ap₂ (λ a b. take a cs ++ (c ++ drop b cs)) z s in
    ap (λ xs. entries_of w (p ∷ places) xs) list
    ∙ ap₂ (λ a b. entry_of p a ∷ entries_of w places b) (ap (λ k. take k (c ++ drop w cs)) (sym e) ∙ take-append_seam c (drop w cs))
    (ap (λ k. drop k (c ++ drop w cs)) (sym e) ∙ drop-append_seam c (drop w cs))
places_set w (q ∷ places) cs (suc v) p c h e l =
    let front = take w cs in
    let rest = drop w cs in
    let long : length front ≡ w = length-take-le w cs (omega arith) in
    let a : w + v * w ≡ suc v * w = omega arith in
    let b : w + (v * w + w) ≡ suc v * w + w = omega arith in
    let inner = take (v * w) rest ++ (c ++ drop (v * w + w) rest) in
    let list : take (suc v * w) cs ++ (c ++ drop (suc v * w + w) cs) ≡ front ++ inner =
    ap₂ (λ x y. x ++ (c ++ y)) (ap (λ k. take k cs) (sym a) ∙ take-add w (v * w) cs) (ap (λ k. drop k cs) (sym b) ∙ drop_more w (v * w + w) cs)
    ∙ append_assoc front (take (v * w) rest) (c ++ drop (v * w + w) rest) in
    ap (λ xs. entries_of w (q ∷ slice_set places v p) xs) list
    ∙ (ap₂ (λ x y. entry_of q x ∷ entries_of w (slice_set places v p) y) (ap (λ k. take k (front ++ inner)) (sym long) ∙ take-append_seam front inner)
    (ap (λ k. drop k (front ++ inner)) (sym long) ∙ drop-append_seam front inner)
    ∙ ap (λ es. entry_of q front ∷ es) (places_set w places rest v p c (omega arith) e (length-drop w cs ∙ omega arith)))

pub places_none : (w n : ℕ) (cs : List ℕ) → entries_of w (replicate n Outside) cs ≡ replicate n None
places_none w zero cs = refl
places_none w (suc n) cs = ap (λ es. None ∷ es) (places_none w n (drop w cs))

abbrev stored : ℕ → List EntryPlace → List ℕ → Entries
stored w places cs = record { width = w; entries = entries_of w places cs }

module _ (w : ℕ) (places : List EntryPlace) (cs : List ℕ) (now : Entries) (is : stored w places cs ≡ now) where
  pub long_is : length now.entries ≡ length places
  long_is = sym (ap (λ (r : Entries). length r.entries) is) ∙ places_long w places cs

  pub entry_is : (v : ℕ) (p d : EntryPlace) (row : List ℕ) → v < length now.entries → p ≡ slice_index_or places v d → row ≡ take w (drop (v * w) cs)
      → slice_index_or now.entries v None ≡ entry_of p row
  entry_is v p d row h e r = sym (ap (λ (r : Entries). slice_index_or r.entries v None) is)
      ∙ (places_at w places cs v p d (let l = long_is in omega arith) e ∙ ap (entry_of p) (sym r))

  pub row_inside : (v l : ℕ) → v < length now.entries → l ≡ length places * w → v * w + w ≤ l
  row_inside v l h e = row_fits v w (length places) l (let n = long_is in omega arith) e

  pub set_entry : (v : ℕ) (p : EntryPlace) (x : Option Entry) (c new : List ℕ) → v < length now.entries → entry_of p c ≡ x → length c ≡ now.width
      → length cs ≡ length places * w
      → new ≡ take (v * w) cs ++ (c ++ drop (v * w + w) cs) → stored w (slice_set places v p) new
      ≡ record { width = now.width; entries = slice_set now.entries v x }
  set_entry v p x c new h e wide l written =
      let same : now.width ≡ w = sym (ap (λ (r : Entries). r.width) is) in
      ap (λ (xs : List ℕ). stored w (slice_set places v p) xs) written
      ∙ (ap (λ (es : List (Option Entry)). record { width = w; entries = es }) (places_set w places cs v p c (let k = long_is in omega arith) (wide ∙ same) l)
      ∙ ap₂ (λ (r : Entries) (y : Option Entry). record { width = r.width; entries = slice_set r.entries v y }) is e)
