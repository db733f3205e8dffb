-- Worked examples of texts of evidence, and of what is written of a checker's answers.
use Rattle.std.specs.Prelude.{◌≡◌, ℕ, zero, suc, List, [], ◌∷◌, Contains, Option, Some, None, codes, refl, slice_index_or}
use Rattle.std.specs.List.{AllByRecursion}
use Rattle.std.specs.Fmt.{digits}
use Rattle.std.proofs.Common.{arith, inl, subst}
use Rattle.text.specs.Tokens.{cut_at}
use Rattle.game.specs.declared.player.Player.TheVariants.{Even, Odd}
use Rattle.game.specs.Game.{Game}
use Rattle.evidence.specs.Canon.{evidence_text}
use Rattle.evidence.specs.Evidence.{Entry, Evidence}
use Rattle.evidence.specs.Fault.{HasEvidenceFault, EvidenceLineFault, IsFaultyRest}
use Rattle.evidence.specs.Scan.{count_before, fields_of, move_of, number_of}
use Rattle.evidence.specs.Spelling.{AreGoodRows, IsEvidenceText, IsShaped, EntryRow}
use Rattle.evidence.specs.Verdict.{both_text, verdict_text}
use Rattle.evidence.specs.declared.error.EvidenceFault.TheVariants.{BadHeader, BadLine, BadVertex}
use Rattle.evidence.specs.declared.verdict.Fault.TheVariants.{Leaves, Rank}
use Rattle.evidence.specs.declared.verdict.Verdict.TheVariants.{Faulty, Good}
use Rattle.evidence.specs.declared.verdict.Both.TheVariants.{LeftOut, OnePlayer, Second, Yes}
use Rattle.evidence.proofs.Scanned.{row_found, row_gives, row_of}
use Rattle.vectors.specs.Systems.{◌&◌}
use Rattle.vectors.specs.Evidences.{evens, odds}
use Rattle.vectors.specs.Games.{often_a_game, vertex_at}

written_even : evidence_text evens
    ≡ codes "evidence even\n0 0 (0)\n2 3 (0)\n3 4 (1)\n4 5 (0)\n5 13 (0)\n6 2 (0)\n8 3 (1)\n9 10 (0)\n10 11 (2)\n11 14 (1)\n13 9 (0)\n14 8 (1)\n15 10 (2)\n"
unfolding digits
written_even = refl

written_odd : evidence_text odds ≡ codes "evidence odd\n1 - (0,0)\n7 - (0,1)\n12 - (0,1)\n"
unfolding digits
written_odd = refl

-- what is written of answers
answers : (verdict_text often_a_game evens Good ≡ codes "verified even 13 of 16\n")
    × (verdict_text often_a_game evens (Faulty 10 Rank) ≡ codes "refused C3 at 10\n")
    × (both_text often_a_game odds evens Yes ≡ codes "verified both even 13 odd 3 of 16\n")
    × (both_text often_a_game evens odds (Second 7 Leaves) ≡ codes "refused second C2 at 7\n")
    × (both_text often_a_game evens evens OnePlayer ≡ codes "refused C4\n") × (both_text often_a_game evens odds (LeftOut 7) ≡ codes "refused C5 at 7\n")
unfolding digits
answers = (refl, refl, refl, refl, refl, refl)

-- ---- what is read

abbrev spelled_row : ℕ → Option ℕ → List ℕ → EntryRow
spelled_row v move rank = record { vertex = v; entry = record { move = move; rank = rank } }

-- two vertices that go to themselves, of the priorities 0 and 1
abbrev two_sinks : Game
two_sinks = record { vertices = vertex_at 0 Even (0 ∷ []) ∷ vertex_at 1 Even (1 ∷ []) ∷ []; named = None }

abbrev of_second : Evidence
of_second = record { player = Odd; entries = None ∷ Some (record { move = None; rank = 0 ∷ [] }) ∷ [] }

line_1 : IsShaped 1 (codes "1 - (0)") (spelled_row 1 None (0 ∷ []))
unfolding fields_of number_of move_of count_before cut_at
line_1 = row_gives 1 (codes "1 - (0)") (spelled_row 1 None (0 ∷ [])) refl

-- the last end is missing
spelled_odd : IsEvidenceText two_sinks (codes "evidence odd\n1 - (0)") of_second
spelled_odd = record {
  rest = codes "1 - (0)" ∷ [];
  cut = refl;
  lines = record {
    rows = spelled_row 1 None (0 ∷ []) ∷ [];
    good = record { each = (line_1, tt); inside = (record { vertex = omega arith; move = λ t e. cc }, tt); once = λ i j d l k. absurd (omega (arith, l, k)) };
    long = refl;
    same = λ v x. (to v x, from v x);
  };
}
  where
    to : (v : ℕ) (x : Entry) → slice_index_or of_second.entries v None ≡ Some x → Contains (spelled_row 1 None (0 ∷ []) ∷ []) (record { vertex = v; entry = x })
    to (suc zero) x e = let same : record { move = None; rank = 0 ∷ [] } ≡ x = cc in (0, omega arith, λ i. record { vertex = 1; entry = same i })
    to _ x e = absurd cc

    from : (v : ℕ) (x : Entry) → Contains (spelled_row 1 None (0 ∷ []) ∷ []) (record { vertex = v; entry = x })
        → slice_index_or of_second.entries v None ≡ Some x
    from v x (zero, h, is) = subst (λ (r : EntryRow). slice_index_or of_second.entries r.vertex None ≡ Some r.entry) is refl
    from v x (suc k, h, is) = absurd (omega (arith, h))

-- ---- what is refused

refused : (width : ℕ) (line : List ℕ) → row_of width line ≡ None → (x : EntryRow) → IsShaped width line x → ⊥
refused width line none x h = let found = row_found width line x h in cc

-- two counts where there is one component; a count above the limit; none; a second space; a CR before the end
bad_lines : AllByRecursion (λ line. EvidenceLineFault 16 1 [] line BadLine)
    (codes "5 13 (0,0)" ∷ codes "5 13 (16777217)" ∷ codes "5 13 ()" ∷ codes "5  13 (0)" ∷ codes "5 13 (0)\r" ∷ [])
unfolding fields_of number_of move_of count_before cut_at
bad_lines =
    refused 1 (codes "5 13 (0,0)") refl & refused 1 (codes "5 13 (16777217)") refl & refused 1 (codes "5 13 ()") refl
    & refused 1 (codes "5  13 (0)") refl & refused 1 (codes "5 13 (0)\r") refl & tt

nothing_before : AreGoodRows 16 1 [] []
nothing_before = record { each = tt; inside = tt; once = λ i j d l k. absurd (omega (arith, k)) }

-- there are vertices 0 to 15
line_16 : IsShaped 1 (codes "16 0 (0)") (spelled_row 16 (Some 0) (0 ∷ []))
unfolding fields_of number_of move_of count_before cut_at
line_16 = row_gives 1 (codes "16 0 (0)") (spelled_row 16 (Some 0) (0 ∷ [])) refl

no_vertex : HasEvidenceFault often_a_game (codes "evidence even\n16 0 (0)\n") BadVertex 2
no_vertex =
    let faulty : IsFaultyRest 16 1 (codes "16 0 (0)" ∷ []) BadVertex 0 = record {
      front = [];
      line = codes "16 0 (0)";
      back = [];
      before = [];
      cut = refl;
      fine = nothing_before;
      count = refl;
      wrong = (spelled_row 16 (Some 0) (0 ∷ []), line_16, inl (omega arith));
    } in
    (Even, codes "16 0 (0)" ∷ [], 0, refl, faulty, refl)

-- the empty text has no header
no_header : HasEvidenceFault often_a_game [] BadHeader 1
no_header = (λ player rest e. cc, refl)
