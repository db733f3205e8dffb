-- Measures that are stored in one list of counts.
use Rattle.measures.proofs.Common.{◌≡◌, ◌≢◌, ℕ, zero, suc, ◌+◌, ◌*◌, ◌<◌, ◌≤◌, Bool, true, false, List, [], ◌∷◌, ◌++◌, length, take, drop, refl, sym, ap, ap₂}
use Rattle.measures.proofs.Common.{◌∙◌, arith, slice_index_or, slice_set, mul-le-mul_right, append_assoc, length-take-le, length-drop, replicate}
use Rattle.measures.proofs.Common.{length-replicate, replicate-append-replicate, take-add, take-append_seam, drop-append_seam, Measure, Top, Counts, value_at}
use Rattle.measures.proofs.Common.{HasWidth, Rows, counts_of, is_top_of, measure_of, rows_of}

pub rows_long : (w : ℕ) (tops : List Bool) (cs : List ℕ) → length (rows_of w tops cs) ≡ length tops
rows_long w [] cs = refl
rows_long w (t ∷ tops) cs = ap suc (rows_long w tops (drop w cs))

-- a row lies within the list
pub row_fits : (v w n l : ℕ) → v < n → l ≡ n * w → v * w + w ≤ l
row_fits v w n l h e = let m : suc v * w ≤ n * w = mul-le-mul_right w h in omega arith

drop_more : (n m : ℕ) (xs : List ℕ) → drop (n + m) xs ≡ drop m (drop n xs)
drop_more zero m xs = let e : 0 + m ≡ m = omega arith in ap (λ k. drop k xs) e
drop_more (suc n) m [] = let e : suc n + m ≡ suc (n + m) = omega arith in ap (λ k. drop {A = ℕ} k []) e ∙ sym (none m)
  where
    none : (k : ℕ) → drop {A = ℕ} k [] ≡ []
    none zero = refl
    none (suc k) = refl
drop_more (suc n) m (x ∷ xs) = let e : suc n + m ≡ suc (n + m) = omega arith in ap (λ k. drop k (x ∷ xs)) e ∙ drop_more n m xs

pub rows_at : (w : ℕ) (tops : List Bool) (cs : List ℕ) (v : ℕ) (top d : Bool) → v < length tops → top ≡ slice_index_or tops v d
    → value_at (rows_of w tops cs) v ≡ measure_of top (take w (drop (v * w) cs))
rows_at w [] cs v top d h e = absurd (omega arith)
rows_at w (t ∷ tops) cs zero top d h e = let z : 0 * w ≡ 0 = omega arith in ap₂ measure_of (sym e) (sym (ap (λ k. take w (drop k cs)) z))
rows_at w (t ∷ tops) cs (suc v) top d h e =
    let m : w + v * w ≡ suc v * w = omega arith in
    rows_at w tops (drop w cs) v top d (omega arith) e ∙ ap (λ xs. measure_of top (take w xs)) (sym (drop_more w (v * w) cs) ∙ ap (λ k. drop k cs) m)

-- whether it is top tells which of its counts say something
pub measure_back : (top : Bool) (c : List ℕ) → measure_of (is_top_of (measure_of top c)) c ≡ measure_of top c
measure_back true c = refl
measure_back false c = refl

pub is_top_back : (top : Bool) (c : List ℕ) → is_top_of (measure_of top c) ≡ top
is_top_back true c = refl
is_top_back false c = refl

-- a mark is enough for top
pub rows_top : (w : ℕ) (tops : List Bool) (cs : List ℕ) (v : ℕ) → rows_of w (slice_set tops v true) cs ≡ slice_set (rows_of w tops cs) v Top
rows_top w [] cs v = refl
rows_top w (t ∷ tops) cs zero = refl
rows_top w (t ∷ tops) cs (suc v) = ap (λ ms. measure_of t (take w cs) ∷ ms) (rows_top w tops (drop w cs) v)

-- and for counts, that they are written in their place
pub rows_counts : (w : ℕ) (tops : List Bool) (cs : List ℕ) (v : ℕ) (c : List ℕ) → v < length tops → length c ≡ w → length cs ≡ length tops * w
    → rows_of w (slice_set tops v false) (take (v * w) cs ++ (c ++ drop (v * w + w) cs)) ≡ slice_set (rows_of w tops cs) v (Counts c)
rows_counts w [] cs v c h e l = absurd (omega arith)
rows_counts w (t ∷ tops) cs zero c h e l =
    let z : 0 * w ≡ 0 = omega arith in
    let s : 0 * w + w ≡ w = omega arith in
    let list : take (0 * w) cs ++ (c ++ drop (0 * w + w) cs) ≡ c ++ drop w cs = ap₂ (λ a b. take a cs ++ (c ++ drop b cs)) z s in
    ap (λ xs. rows_of w (false ∷ tops) xs) list
    ∙ ap₂ (λ a b. Counts a ∷ rows_of w tops b) (ap (λ k. take k (c ++ drop w cs)) (sym e) ∙ take-append_seam c (drop w cs))
    (ap (λ k. drop k (c ++ drop w cs)) (sym e) ∙ drop-append_seam c (drop w cs))
rows_counts w (t ∷ tops) cs (suc v) c h e l =
    let front = take w cs in
    let rest = drop w cs in
    let long : length front ≡ w = length-take-le w cs (omega arith) in
    let a : w + v * w ≡ suc v * w = omega arith in
    let b : w + (v * w + w) ≡ suc v * w + w = omega arith in
    let inner = take (v * w) rest ++ (c ++ drop (v * w + w) rest) in
    let list : take (suc v * w) cs ++ (c ++ drop (suc v * w + w) cs) ≡ front ++ inner =
    ap₂ (λ x y. x ++ (c ++ y)) (ap (λ k. take k cs) (sym a) ∙ take-add w (v * w) cs) (ap (λ k. drop k cs) (sym b) ∙ drop_more w (v * w + w) cs)
    ∙ append_assoc front (take (v * w) rest) (c ++ drop (v * w + w) rest) in
    ap (λ xs. rows_of w (t ∷ slice_set tops v false) xs) list
    ∙ (ap₂ (λ x y. measure_of t x ∷ rows_of w (slice_set tops v false) y) (ap (λ k. take k (front ++ inner)) (sym long) ∙ take-append_seam front inner)
    (ap (λ k. drop k (front ++ inner)) (sym long) ∙ drop-append_seam front inner)
    ∙ ap (λ ms. measure_of t front ∷ ms) (rows_counts w tops rest v c (omega arith) e (length-drop w cs ∙ omega arith)))

abbrev rows : ℕ → List Bool → List ℕ → Rows
rows w tops cs = record { width = w; values = rows_of w tops cs }

module _ (w : ℕ) (tops : List Bool) (cs : List ℕ) (now : Rows) (is : rows w tops cs ≡ now) where
  pub long_is : length now.values ≡ length tops
  long_is = sym (ap (λ (r : Rows). length r.values) is) ∙ rows_long w tops cs

  pub value_is : (v : ℕ) (top d : Bool) → v < length now.values → top ≡ slice_index_or tops v d
      → value_at now.values v ≡ measure_of top (take w (drop (v * w) cs))
  value_is v top d h e = sym (ap (λ (r : Rows). value_at r.values v) is) ∙ rows_at w tops cs v top d (let l = long_is in omega arith) e

  pub top_is : (v : ℕ) (top d : Bool) → v < length now.values → top ≡ slice_index_or tops v d → top ≡ is_top_of (value_at now.values v)
  top_is v top d h e = sym (is_top_back top (take w (drop (v * w) cs))) ∙ ap is_top_of (sym (value_is v top d h e))

  pub row_inside : (v l : ℕ) → v < length now.values → l ≡ length tops * w → v * w + w ≤ l
  row_inside v l h e = row_fits v w (length tops) l (let n = long_is in omega arith) e

  pub row_value : (v : ℕ) (row : List ℕ) → v < length now.values → row ≡ take w (drop (v * w) cs)
      → measure_of (is_top_of (value_at now.values v)) row ≡ value_at now.values v
  row_value v row h e =
      let top = slice_index_or tops v true in
      let at : value_at now.values v ≡ measure_of top (take w (drop (v * w) cs)) = value_is v top true h refl in
      ap₂ (λ (m : Measure) (c : List ℕ). measure_of (is_top_of m) c) at e ∙ (measure_back top (take w (drop (v * w) cs)) ∙ sym at)

  pub row_long : (v : ℕ) (row : List ℕ) → v < length now.values → length cs ≡ length tops * w → row ≡ take w (drop (v * w) cs) → length row ≡ now.width
  row_long v row h l e =
      let fits = row_inside v (length cs) h l in
      ap length e ∙ (length-take-le w (drop (v * w) cs) (let d = length-drop (v * w) cs in omega arith) ∙ ap (λ (r : Rows). r.width) is)

  pub set_top : (v : ℕ) (m : Measure) → m ≡ Top → rows w (slice_set tops v true) cs ≡ record { width = now.width; values = slice_set now.values v m }
  set_top v m e =
      ap (λ (ms : List Measure). record { width = w; values = ms }) (rows_top w tops cs v)
      ∙ ap₂ (λ (r : Rows) (k : Measure). record { width = r.width; values = slice_set r.values v k }) is (sym e)

  pub set_counts : (v : ℕ) (c new : List ℕ) → v < length now.values → length c ≡ now.width → length cs ≡ length tops * w
      → new ≡ take (v * w) cs ++ (c ++ drop (v * w + w) cs)
      → rows w (slice_set tops v false) new ≡ record { width = now.width; values = slice_set now.values v (Counts c) }
  set_counts v c new h wide l written =
      let same : now.width ≡ w = sym (ap (λ (r : Rows). r.width) is) in
      ap (λ (xs : List ℕ). rows w (slice_set tops v false) xs) written
      ∙ (ap (λ (ms : List Measure). record { width = w; values = ms }) (rows_counts w tops cs v c (let k = long_is in omega arith) (wide ∙ same) l)
      ∙ ap (λ (r : Rows). record { width = r.width; values = slice_set r.values v (Counts c) }) is)

pub counts_wide : (w : ℕ) (m : Measure) → HasWidth w m → m ≢ Top → length (counts_of m) ≡ w
counts_wide w Top h n = absurd (n refl)
counts_wide w (Counts c) h n = h

zeros_split : (n w : ℕ) → replicate {A = ℕ} (suc n * w) 0 ≡ replicate w 0 ++ replicate (n * w) 0
zeros_split n w = let more : suc n * w ≡ w + n * w = omega arith in ap (λ k. replicate {A = ℕ} k 0) more ∙ sym (replicate-append-replicate w (n * w) 0)

zeros_first : (w m : ℕ) → take {A = ℕ} w (replicate w 0 ++ replicate m 0) ≡ replicate w 0
zeros_first w m = let long : length (replicate {A = ℕ} w 0) ≡ w = length-replicate w 0 in ap (λ k. take k (replicate w 0 ++ replicate m 0)) (sym long)
    ∙ take-append_seam (replicate w 0) (replicate m 0)

zeros_rest : (w m : ℕ) → drop {A = ℕ} w (replicate w 0 ++ replicate m 0) ≡ replicate m 0
zeros_rest w m = let long : length (replicate {A = ℕ} w 0) ≡ w = length-replicate w 0 in ap (λ k. drop k (replicate w 0 ++ replicate m 0)) (sym long)
    ∙ drop-append_seam (replicate w 0) (replicate m 0)

-- nothing but zeros
pub rows_zeros : (n w : ℕ) → rows_of w (replicate n false) (replicate (n * w) 0) ≡ replicate n (Counts (replicate w 0))
rows_zeros zero w = refl
rows_zeros (suc n) w =
    ap (rows_of w (false ∷ replicate n false)) (zeros_split n w)
    ∙ (ap₂ (λ xs ys. Counts xs ∷ rows_of w (replicate n false) ys) (zeros_first w (n * w)) (zeros_rest w (n * w))
    ∙ ap (λ ms. Counts (replicate w 0) ∷ ms) (rows_zeros n w))
