-- A header and its vertex lines are a text of a game.
use Rattle.std.proofs.Common.{◌≡◌, ℕ, ◌<◌, inr, List, length, Option, Some, None, slice_index_or, Result, refl, ap, ◌∙◌, arith}
use Rattle.std.specs.Prelude.{IfSome, IfOk, IfErr, Contains, slice_get, option_map}
use Rattle.std.proofs.lemmas.Option.{slice_get-map}
use Rattle.text.specs.Text.{lines}
use Rattle.text.specs.Lines.{IfKnown}
use Rattle.text.specs.Reads.{Reads}
use Rattle.text.proofs.Promised.{AreLaws, keeps}
use Rattle.systems.proofs.Ordered.{Has-from_Contains, all_has}
use Rattle.game.specs.declared.limits.TheConstants.{MOST_VERTICES}
use Rattle.game.specs.Game.{Vertex, Game}
use Rattle.pgsolver.specs.declared.error.PgError.{PgError}
use Rattle.pgsolver.specs.declared.error.PgError.TheVariants as errors
use Rattle.pgsolver.specs.Spelling.{VertexLine, IsLineWithin, IsGameText, vertex_said}
use Rattle.pgsolver.specs.Fault.{HasPgFault, HasPgFaultAt}
use Rattle.pgsolver.specs.Left.{BeginsGame, IsPlace, AreAll, ArePutByIds, HasPgRestFault, RefusesPg, pg_fault_of}
use Rattle.pgsolver.proofs.Placing.{has_at, one_line}
use Rattle.pgsolver.proofs.Unique as unique
use Rattle.pgsolver.proofs.Faults.{no_fault, one_fault}

-- the line's vertex was put at its identifier
placed : (n : ℕ) (vertices put : List Vertex) (places : List (Option ℕ)) (text left : List ℕ) → (all : AreAll n vertices places text left)
    → ArePutByIds places vertices put → (x : VertexLine) → Contains all.spelled x → slice_get put x.id ≡ Some (vertex_said x)
placed n vertices put places text left all are x there =
    let here = Has-from_Contains all.spelled x there in
    let low = (all_has (IsLineWithin n) all.spelled x all.good_lines.within here).id in
    elim (slice_index_or places x.id None) as (λ o. slice_index_or places x.id None ≡ o → IsPlace all.spelled x.id o
    → slice_get put x.id ≡ Some (vertex_said x)) [
      | None ↦ λ _ none. absurd (none x there refl)
      | (Some k) ↦ λ is at.
          let (y, e, same) = at in
          let one : y ≡ x = one_line all.spelled y x all.good_lines.once (has_at all.spelled k y e) here same in
          are x.id k (omega (arith, all.placed.count, low)) is ∙ ap (λ vs. slice_get vs k) all.kept ∙ slice_get-map vertex_said all.spelled k
          ∙ ap (option_map vertex_said) e ∙ ap (λ z. Some (vertex_said z)) one
    ] refl (all.placed.each x.id low)

-- what was read is spelled
pub read_whole : (old mid new : Option (List ℕ)) (n : ℕ) (vertices : List Vertex) (places : List (Option ℕ)) (g : Game) → n < MOST_VERTICES
    → IfKnown old mid (BeginsGame n) → IfKnown mid new (AreAll n vertices places) → length vertices ≡ length places
    → length g.vertices ≡ length vertices → ArePutByIds places vertices g.vertices → g.named ≡ None → IfSome old (λ text. IsGameText text g)
read_whole None mid new n vertices places g small begins all many size put unnamed = tt
read_whole (Some text) None new n vertices places g small begins all many size put unnamed = absurd begins
read_whole (Some text) (Some left) None n vertices places g small begins all many size put unnamed = absurd all
read_whole (Some text) (Some left) (Some rest) n vertices places g small begins all many size put unnamed = record {
  n = n;
  first = begins.first;
  rest = lines left;
  spelled = all.spelled;
  cut = begins.cut;
  header = begins.header;
  limit = small;
  good = all.good_lines;
  complete = all.count;
  size = omega (arith, size, many, all.placed.count);
  placed = placed n vertices g.vertices places left rest all put;
  unnamed = unnamed;
}

-- a fault below the header decides
pub read_fault : (old mid : Option (List ℕ)) (n : ℕ) (e : PgError) → n < MOST_VERTICES → IfKnown old mid (BeginsGame n) → RefusesPg mid (HasPgRestFault n) e
    → RefusesPg old HasPgFault e
read_fault None mid n e small begins wrong = tt
read_fault (Some text) None n e small begins wrong = absurd begins
read_fault (Some text) (Some left) n errors.Read small begins wrong = tt
read_fault (Some text) (Some left) n errors.Memory small begins wrong = tt
read_fault (Some text) (Some left) n (errors.Fault fault line) small begins (good, body, place) = inr
    (begins.first, lines left, n, good, begins.cut, begins.header, small, body, place)

pub laws : AreLaws IsGameText IsGameText IsGameText HasPgFaultAt
laws = record {
  one_value = λ text g h a b. unique.one_game text h g b a;
  no_fault = λ text g f a h. no_fault text g f.0 f.1 a h;
  none_due = λ text g f a h. no_fault text g f.0 f.1 a h;
  one_fault = λ text f g h k. let e = one_fault text f.0 g.0 f.1 g.1 h k in λ i. (e.0 i, e.1 i);
}

-- all that the reader promises
pub promised : (old : Option (List ℕ)) (r : Result Game PgError) → IfOk r (λ g. IfSome old (λ text. IsGameText text g)) → IfErr r (RefusesPg old HasPgFault)
    → Reads IsGameText IsGameText IsGameText HasPgFaultAt (λ (g : Game). g) pg_fault_of old r
promised old r spelled fault = keeps IsGameText IsGameText IsGameText HasPgFaultAt (λ (g : Game). g) pg_fault_of laws old r spelled fault
