-- A text spells one game at most.
use Rattle.std.proofs.Common.{◌≡◌, ℕ, ◌+◌, ◌<◌, ◌≤◌, List, [], ◌∷◌, length, map, Some, refl, sym, ap, ◌∙◌, subst, arith}
use Rattle.std.specs.Prelude.{slice_get}
use Rattle.std.specs.List.{AllZip, AllByRecursion}
use Rattle.std.proofs.lemmas.List.{ext_get_or}
use Rattle.std.proofs.lemmas.Option.{get_or_from_slice_get}
use Rattle.text.specs.Text.{lines}
use Rattle.text.specs.Tokens.{capped}
use Rattle.lts.proofs.Unique.{lines_same}
use Rattle.systems.proofs.Ordered.{Has, Contains-from_Has, all_has}
use Rattle.game.specs.declared.player.Player.TheVariants.{Even}
use Rattle.game.specs.declared.limits.TheConstants.{MOST_VERTICES}
use Rattle.game.specs.Game.{Vertex, Game}
use Rattle.pgsolver.specs.Spelling.{VertexLine, IsPgHeader, IsLine, IsLineWithin, IsGameText, vertex_said}
use Rattle.pgsolver.specs.Scan.{capped_line}
use Rattle.pgsolver.proofs.Scanning.{header_finds, line_finds}
use Rattle.pgsolver.proofs.Placing.{each_there}
use Rattle.pgsolver.proofs.Reading.{zip_length}

some_line : {A : Type 0} (x y : A) → Some x ≡ Some y → x ≡ y
some_line x y e = cc

-- two readings of one header are read alike
pub header_same : (line : List ℕ) (m n : ℕ) → IsPgHeader line m → IsPgHeader line n → capped m ≡ capped n
header_same line m n h k = some_line (capped m) (capped n) (sym (header_finds line m h) ∙ header_finds line n k)

-- and two readings of one line
pub read_alike : (line : List ℕ) (x y : VertexLine) → IsLine line x → IsLine line y → capped_line x ≡ capped_line y
read_alike line x y h k = some_line (capped_line x) (capped_line y) (sym (line_finds line x h) ∙ line_finds line y k)

small_numbers : (n : ℕ) (xs ys : List ℕ) → n < MOST_VERTICES → AllByRecursion (λ t. t ≤ n) xs → map capped xs ≡ map capped ys → ys ≡ xs
small_numbers n [] [] small all e = refl
small_numbers n [] (y ∷ ys) small all e = absurd cc
small_numbers n (x ∷ xs) [] small all e = absurd cc
small_numbers n (x ∷ xs) (y ∷ ys) small all e =
    let first : capped x ≡ capped y = cc in
    let rest : map capped xs ≡ map capped ys = cc in
    let same : y ≡ x = omega (arith, all.0, first) in
    let more = small_numbers n xs ys small all.1 rest in
    λ i. same i ∷ more i

-- a line within the limits is read in one way
pub line_same : (n : ℕ) (line : List ℕ) (x y : VertexLine) → n < MOST_VERTICES → IsLineWithin n x → IsLine line x → IsLine line y → y ≡ x
line_same n line x y small within h k =
    let e = read_alike line x y h k in
    let id : capped x.id ≡ capped y.id = ap (λ (l : VertexLine). l.id) e in
    let priority : capped x.priority ≡ capped y.priority = ap (λ (l : VertexLine). l.priority) e in
    let owner : x.owner ≡ y.owner = ap (λ (l : VertexLine). l.owner) e in
    let same_id : y.id ≡ x.id = omega (arith, within.id) in
    let same_priority : y.priority ≡ x.priority = omega (arith, within.priority) in
    let same_successors : y.successors ≡ x.successors = small_numbers n x.successors y.successors small within.successors (ap (λ (l : VertexLine). l.successors) e) in
    λ i. record { id = same_id i; priority = same_priority i; owner = sym owner i; successors = same_successors i }

pub lines_are : (n : ℕ) (rest : List (List ℕ)) (xs ys : List VertexLine) → n < MOST_VERTICES → AllByRecursion (IsLineWithin n) xs → AllZip IsLine rest xs
    → AllZip IsLine rest ys → ys ≡ xs
lines_are n [] [] [] small within h k = refl
lines_are n [] [] (y ∷ ys) small within h k = absurd k
lines_are n [] (x ∷ xs) ys small within h k = absurd h
lines_are n (line ∷ rest) [] ys small within h k = absurd h
lines_are n (line ∷ rest) (x ∷ xs) [] small within h k = absurd k
lines_are n (line ∷ rest) (x ∷ xs) (y ∷ ys) small within h k =
    let e = line_same n line x y small within.0 h.0 k.0 in
    let r = lines_are n rest xs ys small within.1 h.1 k.1 in
    λ i. e i ∷ r i

-- two readings of one text have one header and the same lines
pub text_same : (text : List ℕ) (g : Game) (a : IsGameText text g) (first : List ℕ) (rest : List (List ℕ)) (n : ℕ) → lines text ≡ first ∷ rest
    → IsPgHeader first n → n < MOST_VERTICES → (n ≡ a.n) × (rest ≡ a.rest)
text_same text g a first rest n cut header small =
    let same = lines_same first a.first rest a.rest (sym cut ∙ a.cut) in
    let h = header_same a.first n a.n (subst (λ l. IsPgHeader l n) same.0 header) a.header in
    (omega (arith, h, a.limit), same.1)

other_vertex : Vertex
other_vertex = record { owner = Even; priority = 0; successors = [] }

pub one_game : (text : List ℕ) (g h : Game) → IsGameText text g → IsGameText text h → g ≡ h
one_game text g h a b =
    let (same_n, same_rest) = text_same text g a b.first b.rest b.n b.cut b.header b.limit in
    let spelled : b.spelled ≡ a.spelled = lines_are a.n a.rest a.spelled b.spelled a.limit a.good.within a.good.each
    (subst (λ r. AllZip IsLine r b.spelled) same_rest b.good.each) in
    let count : length a.spelled ≡ a.n + 1 = zip_length a.rest a.spelled a.good.each ∙ a.complete in
    let size : length g.vertices ≡ length h.vertices = omega (arith, a.size, b.size, same_n) in
    let vertices : g.vertices ≡ h.vertices =
    ext_get_or other_vertex g.vertices h.vertices size (λ v below.
    let (x, there, is) = each_there a.n v a.spelled a.good.once (λ y k. (all_has (IsLineWithin a.n) a.spelled y a.good.within k).id) count
    (omega (arith, a.size)) in
    let at_g : slice_get g.vertices v ≡ Some (vertex_said x) = ap (slice_get g.vertices) (sym is) ∙ a.placed x (Contains-from_Has a.spelled x there) in
    let at_h : slice_get h.vertices v ≡ Some (vertex_said x) = ap (slice_get h.vertices) (sym is)
    ∙ b.placed x (Contains-from_Has b.spelled x (subst (λ l. Has l x) (sym spelled) there)) in
    get_or_from_slice_get g.vertices v (vertex_said x) other_vertex at_g ∙ sym (get_or_from_slice_get h.vertices v (vertex_said x) other_vertex at_h)) in
    λ i. record { vertices = vertices i; named = (a.unnamed ∙ sym b.unnamed) i }
