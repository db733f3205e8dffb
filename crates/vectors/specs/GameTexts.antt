-- Worked examples of texts that spell no game, with the fault that decides and its line.
use Rattle.std.specs.Prelude.{ℕ, [], ◌∷◌, None, codes, refl}
use Rattle.std.proofs.Common.{arith, inl, inr}
use Rattle.game.specs.declared.player.Player.TheVariants.{Even}
use Rattle.pgsolver.specs.Fault.{FaultyLine, HasPgFault}
use Rattle.pgsolver.specs.Spelling.{AreGoodLines, IsPgHeader, IsLine, VertexLine}
use Rattle.vectors.specs.Systems.{without_blanks}
use Rattle.pgsolver.specs.declared.error.PgFault.TheVariants.{BadHeader, BadIdentifier}

-- the empty text has no header
no_header : HasPgFault [] BadHeader 1
no_header = inl (λ first rest n e h. cc, refl)

-- parity 0;
header_of_one : IsPgHeader (codes "parity 0;") 0
header_of_one = (codes "0", (refl, refl), ([], codes " 0;", refl, refl, (codes " ", codes ";", refl, refl, ([], [], refl, refl, refl))))

-- a vertex of Even with priority 0 that leads to vertex 0
abbrev line_of : ℕ → VertexLine
line_of v = record { id = v; priority = 0; owner = Even; successors = 0 ∷ [] }

-- 1 0 0 0;
line_1 : IsLine (codes "1 0 0 0;") (line_of 1)
line_1 = record {
  i = codes "1";
  p = codes "0";
  first_gap = codes " ";
  second_gap = codes " ";
  third_gap = codes " ";
  targets = codes "0" ∷ [];
  name = None;
  id = (refl, refl);
  priority = (refl, refl);
  successors = ((refl, refl), tt);
  gaps = ((32, refl, refl), (32, refl, refl), (32, refl, refl));
  named = tt;
  spaced = without_blanks (codes "1" ∷ codes " " ∷ codes "0" ∷ codes " " ∷ codes "0" ∷ codes " " ∷ codes "0" ∷ codes ";" ∷ []);
}

nothing_before : AreGoodLines 0 [] []
nothing_before = record { each = tt; within = tt; once = λ i j d l k. absurd (omega (arith, k)) }

-- the greatest identifier is 0
identifier_too_great : HasPgFault (codes "parity 0;\n1 0 0 0;\n") BadIdentifier 2
identifier_too_great =
    let faulty : FaultyLine 0 (codes "1 0 0 0;" ∷ []) BadIdentifier 0 = record {
      front = [];
      line = codes "1 0 0 0;";
      back = [];
      before = [];
      cut = refl;
      good_lines = nothing_before;
      count = refl;
      wrong = (line_of 1, line_1, inl (omega arith));
    } in
    inr (codes "parity 0;", codes "1 0 0 0;" ∷ [], 0, 0, refl, header_of_one, omega arith, inl faulty, refl)
