-- The vertices of the game with the players exchanged.
use Rattle.std.proofs.Common.{◌≡◌, ℕ, ◌+◌, ◌<◌, ◌≤◌, List, [], ◌∷◌, ◌++◌, length, map, take, sym, ap, subst, ◌∙◌, inl, inr, arith, Some, None, option_map}
use Rattle.std.proofs.Common.{slice_get}
use Rattle.std.specs.List.{AllByRecursion}
use Rattle.std.proofs.lemmas.List.{length-map, take_all}
use Rattle.std.proofs.lemmas.Option.{get_or_from_slice_get, slice_get_cases, slice_get_within}
use Rattle.std.proofs.lemmas.List.Elements.{All-from_recursion}
use Rattle.game.specs.declared.player.Player.{Player}
use Rattle.game.specs.Game.{Vertex, Game, IsAscending, IsVertex, IsGame, dual, greatest, greatest_of, opponent, vertex}
use Rattle.game.proofs.Arenas.{vertices_more}
pub use Rattle.game.specs.Lent.{turned}

pub long_dual : (g : Game) → length (dual g).vertices ≡ length g.vertices
long_dual g = length-map g.vertices turned

turned_all : (n m : ℕ) (vs : List Vertex) → n ≡ m → AllByRecursion (IsVertex n) vs → greatest_of vs ≤ 31 → AllByRecursion (IsVertex m) (map turned vs)
turned_all n m [] e h l = tt
turned_all n m (v ∷ vs) e h l = (
  record { priority = omega arith; some = h.0.some; ascending = h.0.ascending; within = subst (λ k. AllByRecursion (λ t. t < k) v.successors) e h.0.within },
  turned_all n m vs e h.1 (omega arith),
)

pub dual_game : (g : Game) → IsGame g → greatest g ≤ 31 → IsGame (dual g)
dual_game g game l = record {
  some = (let a = game.some in omega (arith, a, long_dual g));
  limit = (let a = game.limit in omega (arith, a, long_dual g));
  vertices = turned_all (length g.vertices) (length (dual g).vertices) g.vertices (sym (long_dual g)) game.vertices l;
  named = λ states nodes e. absurd cc;
}

-- a list of vertices that rise has room for what is left only
ascending_few : (n x : ℕ) (xs : List ℕ) → IsAscending (x ∷ xs) → AllByRecursion (λ t. t < n) (x ∷ xs) → x + length (x ∷ xs) ≤ n
ascending_few n x [] h w = let l = w.0 in omega arith
ascending_few n x (y ∷ ys) h w = let r = ascending_few n y ys h.1 w.1 in let l = h.0 in omega (arith, r, l)

vertex_few : (n : ℕ) (x : Vertex) → IsVertex n x → length x.successors ≤ n
vertex_few n x is = by x.successors is.ascending is.within
  where
    by : (xs : List ℕ) → IsAscending xs → AllByRecursion (λ t. t < n) xs → length xs ≤ n
    by [] h w = omega arith
    by (y ∷ ys) h w = let r = ascending_few n y ys h w in omega (arith, r)

vertex_all : (P : Vertex → Type 0) (vs : List Vertex) (v : ℕ) (x : Vertex) → AllByRecursion P vs → slice_get vs v ≡ Some x → P x
vertex_all P vs v x h e = subst P (get_or_from_slice_get vs v x x e) (All-from_recursion P vs h v x (slice_get_within vs v x e))

module _ (g : Game) (v : ℕ) (inside : v < length g.vertices) where
  record Told : Type 0 where
    pub at : Vertex
    pub is : vertex g v ≡ Some at

  here : Told
  here = elim ((slice_get_cases g.vertices v).1) [ inl w ↦ record { at = w.0; is = w.2 } | inr w ↦ (let l = w.0 in absurd (omega arith)) ]

  told : {B : Type 0} (f : Vertex → B) (b : B) → option_map f (vertex g v) ≡ Some b → b ≡ f here.at
  told f b e = let q : Some (f here.at) ≡ Some b = ap (option_map f) (sym here.is) ∙ e in sym (same q)
    where
      same : {B : Type 0} {a b : B} → Some a ≡ Some b → a ≡ b
      same e = cc

  pub successors_few : IsGame g → (ts : List ℕ) → option_map (λ x. x.successors) (vertex g v) ≡ Some ts → length ts ≤ 16777216
  successors_few game ts e =
      let few = vertex_few (length g.vertices) here.at (vertex_all (IsVertex (length g.vertices)) g.vertices v here.at game.vertices here.is) in
      let limit = game.limit in
      let same : length ts ≡ length here.at.successors = ap length (told (λ x. x.successors) ts e) in
      omega (arith, few, limit, same)

  -- one vertex more
  pub turned_more : (owner : Player) (priority : ℕ) (ts : List ℕ) (old new : List Vertex) → option_map (λ x. x.owner) (vertex g v) ≡ Some owner
      → option_map (λ x. x.priority) (vertex g v) ≡ Some priority
      → option_map (λ x. x.successors) (vertex g v) ≡ Some ts → old ≡ map turned (take v g.vertices)
      → new ≡ old ++ record { owner = opponent owner; priority = priority + 1; successors = ts } ∷ []
      → new ≡ map turned (take (v + 1) g.vertices)
  turned_more owner priority ts old new o p s before push =
      vertices_more turned g.vertices v here.at (record { owner = opponent owner; priority = priority + 1; successors = ts }) [] old new here.is before push
      (λ i. record {
        owner = opponent (told (λ x. x.owner) owner o i);
        priority = told (λ x. x.priority) priority p i + 1;
        successors = told (λ x. x.successors) ts s i;
      })

-- and all of them
pub turned_whole : (g : Game) (v : ℕ) (vs : List Vertex) → length g.vertices ≤ v → vs ≡ map turned (take v g.vertices) → vs ≡ map turned g.vertices
turned_whole g v vs h e = e ∙ ap (map turned) (take_all v g.vertices h)

pub turned_game : (g : Game) (vs : List Vertex) → IsGame g → greatest g ≤ 31 → vs ≡ map turned g.vertices → IsGame (record { vertices = vs; named = None })
turned_game g vs game l e = subst (λ (ws : List Vertex). IsGame (record { vertices = ws; named = None })) (sym e) (dual_game g game l)
