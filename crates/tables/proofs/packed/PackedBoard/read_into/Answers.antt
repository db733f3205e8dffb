use Rattle.std.proofs.Common.{◌≡◌, ◌<◌, [], ◌∷◌, ◌++◌, List, ap, arith, length, refl, subst, suc, sym, ◌+◌, ℕ, ◌∙◌, length-set, length-append}
use Rattle.std.specs.List.{range_with_len}
use Rattle.std.proofs.lemmas.List.{append-nil}
use Rattle.measures.specs.Measure.{IsAtMost, Measure}
use Rattle.measures.specs.Progress.{greater_of, value_at}
use Rattle.measures.proofs.Gathering.{greater_new}
use Rattle.measures.proofs.Plain.{value_set_same}
use Rattle.measures.proofs.Rising.{under_itself, under_trans}
use Rattle.game.specs.Game.{Game}
use Rattle.tables.specs.Seats.{Did, board_game, done}
use Rattle.tables.specs.Turns.{reads}
use Rattle.tables.specs.declared.access.Access.TheVariants.{Read}
use Rattle.tables.proofs.Doing.{did_both}
use Rattle.tables.proofs.Reading.{first_reads_next, over_next}
use Rattle.tables.proofs.packed.PackedBoard.read_into.Goals as goal

pub loop-v-init : goal.loop-v-init
loop-v-init c = record {
  seat = c.requires.seat;
  game = c.requires.table;
  kept = under_itself c.args.table.now.values;
  long = c.known.ensures.long ∙ ap (λ (h : Game). length h.vertices) c.requires.table;
  read = ([], refl, sym (append-nil (done c.args.seat.now)), λ u l. absurd (omega (arith, l)));
}

pub loop-v-preserved : goal.loop-v-preserved
loop-v-preserved c =
    let v = c.loop-v.v in
    let m = c.load.result in
    let old = c.loop-v.table.values in
    let new = c.raise.new.self.values in
    let inv = c.loop-v.invariant in
    let values = inv.read.0 in
    let there : v < length old = let size = c.vertices-v-end.ensures ∙ ap (λ (h : Game). length h.vertices) c.deref.ensures in let end = c.loop-v-test.true in let long = inv.long in omega (arith, size, end, long) in
    let here : IsAtMost m (value_at new v) = subst (λ (table : List Measure). IsAtMost m (value_at table v)) (sym c.raise.ensures.values)
    (subst (IsAtMost m) (sym (value_set_same old v (greater_of (value_at old v) m) there)) (greater_new (value_at old v) m)) in record {
      seat = c.load.ensures.seat;
      game = c.raise.ensures.game ∙ inv.game;
      kept = under_trans c.args.table.now.values old new inv.kept c.raise.ensures.kept;
      long = ap length c.raise.ensures.values ∙ (length-set old v (greater_of (value_at old v) m) ∙ inv.long);
      read = (
        values ++ m ∷ [],
        (let more = length-append values (m ∷ []) in let long = inv.read.1 in omega (arith, more, long)),
        subst (Did c.args.seat.now c.load.new.seat) (first_reads_next v values m inv.read.1)
            (did_both c.args.seat.now c.loop-v.seat c.load.new.seat (reads (range_with_len 0 v) values) (Read v m ∷ []) inv.read.2 c.load.ensures.read),
        over_next values old new v m inv.read.1 inv.read.3 c.raise.ensures.kept here,
      );
    }

pub returns-clause-poured : goal.returns-clause-poured
returns-clause-poured c =
    let read = c.loop-v.invariant.read in
    let end : c.loop-v.v ≡ length (board_game c.args.self.now).vertices =
    let size = c.vertices-v-end.ensures ∙ ap (λ (h : Game). length h.vertices) c.deref.ensures in let a = c.loop-v-test.false in let b = c.loop-v.auto.v-end in omega (arith, size, a, b) in (
      reads (range_with_len 0 c.loop-v.v) read.0,
      read.2,
      record {
        values = read.0;
        each = read.1 ∙ end;
        whole = ap (λ (n : ℕ). reads (range_with_len 0 n) read.0) end;
        over = λ u lt. read.3 u (omega (arith, lt, end));
      },
    )
