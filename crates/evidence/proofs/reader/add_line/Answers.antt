use Rattle.std.proofs.Common.{◌≡◌, Some, None, subst}
use Rattle.evidence.specs.Scan.{rank_of}
use Rattle.evidence.specs.View.{rank_width}
use Rattle.evidence.proofs.Judged.{no_fields, no_place, no_rank, placed, shaped}
use Rattle.evidence.proofs.reader.add_line.Goals as goal

pub returns-in_default-clause-fault : goal.returns-in_default-clause-fault
returns-in_default-clause-fault c = no_fields (rank_width c.args.evidence.now) c.args.line.now c.in_default.ensures

pub returns-then-not-read_rank-clause-fault : goal.returns-then-not-read_rank-clause-fault
returns-then-not-read_rank-clause-fault c =
    let f = c.in-Some.ensures in
    let read = rw c.if-not-read_rank.true at c.read_rank.ensures in
    let none : rank_of (rank_width c.args.evidence.now) c.in-Some.spelled.rank.now
    ≡ None = subst (λ w. rank_of w c.in-Some.spelled.rank.now ≡ None) c.requires.width read in
    no_rank (rank_width c.args.evidence.now) c.args.line.now f.vertex f.move _ f.found none

pub returns-then-not-has_place-clause-fault : goal.returns-then-not-has_place-clause-fault
returns-then-not-has_place-clause-fault c =
    let f = c.in-Some.ensures in
    let counts = c.read_rank.new.counts in
    let read = rw c.if-not-read_rank.false at c.read_rank.ensures in
    let some : rank_of (rank_width c.args.evidence.now) c.in-Some.spelled.rank.now
    ≡ Some counts = subst (λ w. rank_of w c.in-Some.spelled.rank.now ≡ Some counts) c.requires.width read in (
      _,
      shaped (rank_width c.args.evidence.now) c.args.line.now f.vertex f.move _ f.found counts some,
      no_place c.args.evidence.now c.requires.few _ f.vertex _ f.move f.number f.next (rw c.if-not-has_place.true at (rw c.entries.ensures at c.has_place.ensures)),
    )

pub returns-clause-added : goal.returns-clause-added
returns-clause-added c =
    let f = c.in-Some.ensures in
    let counts = c.read_rank.new.counts in
    let read = rw c.if-not-read_rank.false at c.read_rank.ensures in
    let some : rank_of (rank_width c.args.evidence.now) c.in-Some.spelled.rank.now
    ≡ Some counts = subst (λ w. rank_of w c.in-Some.spelled.rank.now ≡ Some counts) c.requires.width read in
    placed c.args.evidence.now c.requires.few _ f.vertex _ f.move f.number f.next (rw c.if-not-has_place.false at (rw c.entries.ensures at c.has_place.ensures)) c.args.line.now counts
    (shaped (rank_width c.args.evidence.now) c.args.line.now f.vertex f.move _ f.found counts some) _ c.put.ensures
