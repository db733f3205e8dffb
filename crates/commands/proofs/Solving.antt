-- What was solved, and written of it.
use Rattle.std.proofs.Common.{◌≡◌, ◌≤◌, ℕ, List, Bool, true, false, Some, Result, Ok, Err, inr, refl, subst, sym}
use Rattle.std.specs.Prelude.{◌↔◌, IsTrue}
use Rattle.text.proofs.Writing.{Stays-refl}
use Rattle.text.specs.Taken.{Taken}
use Rattle.text.specs.declared.write_loop.WriteFault.{WriteFault}
use Rattle.calculus.specs.declared.limits.TheConstants.{GREATEST_PRIORITY}
use Rattle.game.specs.Game.{Game, IsGame, greatest}
use Rattle.game.specs.Wins.{OddWins, Wins}
use Rattle.evidence.specs.Pair.{AreFull}
use Rattle.evidence.specs.Best.{IsEvenOf, IsOddOf}
use Rattle.evidence.specs.Evidence.{IsGood, has}
use Rattle.evidence.specs.Laws.{WrittenIsAccepted}
use Rattle.evidence.specs.View.{NamedEvidence}
use Rattle.workers.specs.declared.team.BoardKind.{BoardKind}
use Rattle.requests.proofs.Orders.{unasked}
use Rattle.requests.specs.declared.error.MuError.{MuError}
use Rattle.requests.specs.declared.error.MuError.TheVariants as error
use Rattle.requests.specs.declared.request.ReportForm.TheVariants.{Whole}
use Rattle.requests.specs.Solver.{FitsBoard}
use Rattle.requests.specs.Writers.{Lent, AreWritten, report_writer}
use Rattle.commands.specs.Answers.{IsAnswerTo}
use Rattle.commands.specs.Solves.{AnswersSolve, HasSolved, IsSolveText, solve_writers}
use Rattle.commands.specs.Spelled.{IsGameOf}
use Rattle.commands.specs.Winners.{AreWinners}

-- Beside the report's writer there are two from which nothing is asked.
pub beside_report : (board : BoardKind) (text : List ℕ) (even odd old new : Taken) (r : Result Bool MuError)
    → AnswersSolve board text (report_writer Whole old new) r → AnswersSolve board text (solve_writers false even even odd odd old new) r
beside_report board text even odd old new r h = by r h
  where
    both : (g : Game) (marks : List Bool) (r : Result Bool MuError) → AreWritten (IsSolveText g marks) (report_writer Whole old new) r
        → AreWritten (IsSolveText g marks) (solve_writers false even even odd odd old new) r
    both g marks (Ok a) h = (unasked (IsSolveText g marks) even refl, (unasked (IsSolveText g marks) odd refl, h))
    both g marks (Err e) h = inr (unasked (IsSolveText g marks) even refl, inr (unasked (IsSolveText g marks) odd refl, h))

    more : (r : Result Bool MuError) → HasSolved board text (report_writer Whole old new) r → HasSolved board text (solve_writers false even even odd odd old new) r
    more r h = record {
      g = h.g;
      marks = h.marks;
      game = h.game;
      fits = h.fits;
      exact = h.exact;
      written = both h.g h.marks r h.written;
      answered = h.answered;
    }

    by : (r : Result Bool MuError) → AnswersSolve board text (report_writer Whole old new) r → AnswersSolve board text (solve_writers false even even odd odd old new) r
    by (Ok a) h = more (Ok a) h
    by (Err (error.Write fault)) h = more (Err (error.Write fault)) h
    by (Err (error.Evidence e)) h = (record { g = h.0.g; game = h.0.game; fits = h.0.fits; asked = inr (inr h.0.asked); memory = h.0.memory }, (Stays-refl even, (Stays-refl odd, h.1)))
    by (Err e) h = (h.0, (Stays-refl even, (Stays-refl odd, h.1)))

-- All was written, or a beginning.
pub solved_of : (board : BoardKind) (text : List ℕ) (g : Game) (marks : List Bool) (writers : List Lent) (wrote : Result Unit WriteFault)
    (r : Result Bool MuError) → IsGameOf text g → FitsBoard (Some board) g → AreWinners g marks → AreWritten (IsSolveText g marks) writers wrote
    → IsAnswerTo wrote true r → AnswersSolve board text writers r
solved_of board text g marks writers (Ok u) r is fits exact written e = subst (AnswersSolve board text writers) (sym e)
    (record { g = g; marks = marks; game = is; fits = fits; exact = exact; written = written; answered = refl })
solved_of board text g marks writers (Err fault) r is fits exact written e = subst (AnswersSolve board text writers) (sym e)
    (record { g = g; marks = marks; game = is; fits = fits; exact = exact; written = written; answered = tt })

-- ------------------------------------------------------------------ with evidence

-- The evidence of the least tables is good, of all that each player wins, and its texts are read again.
pub least_full : (g : Game) (even odd : NamedEvidence) → WrittenIsAccepted → IsGame g → greatest g ≤ GREATEST_PRIORITY → even.game ≡ g
    → IsEvenOf g even.evidence → IsGood g even.evidence → ((v : ℕ) → IsTrue (has even.evidence v) ↔ Wins g v) → odd.game ≡ g
    → IsOddOf g odd.evidence → IsGood g odd.evidence → ((v : ℕ) → IsTrue (has odd.evidence v) ↔ OddWins g v)
    → AreFull g (record { even = even; odd = odd })
least_full g even odd accepted is few even_game even_least even_good even_exact odd_game odd_least odd_good odd_exact =
    let read = accepted g even.evidence odd.evidence is few even_least odd_least in
    record {
      even_game = even_game;
      even = record { player = even_least.player; good = even_good; exact = λ v h. even_exact v; readable = read.0 };
      odd_game = odd_game;
      odd = record { player = odd_least.0; good = odd_good; exact = λ v h. odd_exact v; readable = read.1 };
    }
