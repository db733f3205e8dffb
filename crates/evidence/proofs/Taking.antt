-- What a line that is taken says of what a reader has left.
use Rattle.std.proofs.Common.{◌≡◌, ◌≢◌, ℕ, ◌+◌, true, false, cond, ◌==◌, List, [], ◌∷◌, length, take, Option, Some, None, Result, Ok}
use Rattle.std.proofs.Common.{Err, refl, sym, ap, ◌∙◌, subst}
use Rattle.std.specs.Prelude.{IfSome, IfErr, OnOk}
use Rattle.text.specs.Text.{pieces_of, with_first, lines}
use Rattle.text.specs.Lines.{IfKnown, TakesPiece}
use Rattle.text.specs.Stream as stream
use Rattle.text.specs.Stream.{first_piece, after_line, HasLine}
use Rattle.text.proofs.Streaming.{known_only, lines_cons}
use Rattle.game.specs.declared.player.Player.{Player}
use Rattle.evidence.specs.declared.error.EvidenceFault.{EvidenceFault}
use Rattle.evidence.specs.declared.error.EvidenceFault.TheVariants.{BadHeader}
use Rattle.evidence.specs.declared.limits.TheConstants.{LONGEST_LINE}
use Rattle.evidence.specs.Canon.{header}
use Rattle.evidence.specs.Reading.{AddsNext, BeginsWith, HasNoHeader, HasEvidenceRestFault, IsAdded, IsWrongLine, ReadsNext, RefusesNext, EntriesSoFar, TakesFirst}
use Rattle.evidence.specs.Scan.{IsNoHeader}
use Rattle.evidence.specs.Short.{TakesShort, short}
use Rattle.evidence.specs.View.{NamedEvidence, rank_width}
use Rattle.evidence.proofs.Gathered.{bad_line, line_more}
use Rattle.evidence.proofs.Lifted.{a_header, no_header}

pub pieces_cons : (b : ℕ) (text : List ℕ) → pieces_of (b ∷ text) ≡ first_piece (b ∷ text) ∷ pieces_of (after_line (b ∷ text))
pieces_cons b [] = elim (b == 10) as (λ c. cond c ([] ∷ []) ((b ∷ []) ∷ []) ≡ cond c [] (b ∷ []) ∷ pieces_of (cond c [] [])) [ true ↦ refl | false ↦ refl ]
pieces_cons b (d ∷ text) =
    elim (b == 10) as (λ c. cond c ([] ∷ pieces_of (d ∷ text)) (with_first b (pieces_of (d ∷ text)))
    ≡ cond c [] (b ∷ first_piece (d ∷ text)) ∷ pieces_of (cond c (d ∷ text) (after_line (d ∷ text)))) [
      | true ↦ refl
      | false ↦ ap (with_first b) (pieces_cons d text)
    ]

pieces_some : (text : List ℕ) → text ≢ [] → pieces_of text ≡ first_piece text ∷ pieces_of (after_line text)
pieces_some [] some = absurd (some refl)
pieces_some (b ∷ text) some = pieces_cons b text

-- ---- the line that is next

some_line : (text : List ℕ) → lines text ≢ [] → text ≢ []
some_line text some none = some (ap lines none)

-- the line is the first one
pub next_taken : (old mid new : Option (List ℕ)) (line : List ℕ) → HasLine old mid true → IfKnown mid new (TakesFirst line) → TakesPiece old new true line
next_taken None mid new line has taken = tt
next_taken (Some text) None new line has taken = absurd has
next_taken (Some text) (Some left) None line has taken = absurd taken
next_taken (Some text) (Some left) (Some rest) line (same, more) (first, after) =
    pieces_some text (some_line text (λ none. let wrong : stream.line_of text ∷ lines (after_line text) ≡ [] = sym more ∙ none in cc))
    ∙ (λ i. (ap first_piece (sym same) ∙ first) i ∷ pieces_of (after_line text)) ∙ ap (λ t. line ∷ pieces_of t) (sym (after ∙ ap after_line same))

-- no line is left
pub none_taken : (old new : Option (List ℕ)) (line : List ℕ) → HasLine old new false → TakesPiece old new false line
none_taken None new line has = tt
none_taken (Some text) None line has = absurd has
none_taken (Some []) (Some left) line has = refl
none_taken (Some (b ∷ text)) (Some left) line (same, none) =
    absurd (let wrong : stream.line_of (b ∷ text) ∷ lines (after_line (b ∷ text)) ≡ [] = sym (lines_cons b text) ∙ none in cc)

-- one more line
pub next_more : (first : NamedEvidence) (good : ℕ) (old a mid new : Option (List ℕ)) (before after : NamedEvidence) → EntriesSoFar first good old a before
    → HasLine a mid true → AddsNext mid new before after → EntriesSoFar first (good + 1) old new after
next_more first good old a mid new before after so has (line, one, taken) =
    line_more first good old a new line before after so (next_taken a mid new line has taken) one

-- the line is faulty
pub next_bad : (first : NamedEvidence) (good p : ℕ) → p ≡ good → (old a mid new : Option (List ℕ)) (before : NamedEvidence) (fault : EvidenceFault)
    → EntriesSoFar first good old a before → HasLine a mid true → RefusesNext mid new before fault
    → IfSome old (λ text. HasEvidenceRestFault (length first.evidence.entries) (rank_width first) text fault (p + 2))
next_bad first good p at None a mid new before fault so has wrong = tt
next_bad first good p at (Some text) None mid new before fault so has wrong = absurd so.cut
next_bad first good p at (Some text) (Some left) None new before fault so has wrong = absurd has
next_bad first good p at (Some text) (Some left) (Some same) None before fault so has wrong = absurd wrong
next_bad first good p at (Some text) (Some left) (Some same) (Some rest) before fault so has (wrong, after) =
    bad_line first good p at (Some text) (Some left) (Some rest) (first_piece same) before fault so
    (next_taken (Some left) (Some same) (Some rest) (first_piece same) has (refl, after)) wrong

-- ---- a line that is kept shortened

-- it adds what the line adds
pub short_adds : (kept : List ℕ) (old new : Option (List ℕ)) (before after : NamedEvidence) → IfKnown old new (TakesShort kept) → IsAdded kept before after
    → ((whole : List ℕ) → kept ≡ take LONGEST_LINE (short whole) → IsAdded whole before after) → AddsNext old new before after
short_adds kept None new before after taken one whole = (kept, one, tt)
short_adds kept (Some text) None before after taken one whole = absurd taken
short_adds kept (Some text) (Some left) before after (is, rest) one whole = (first_piece text, whole (first_piece text) is, (refl, rest))

pub short_bad : (kept : List ℕ) (old new : Option (List ℕ)) (before : NamedEvidence) (fault : EvidenceFault) → IfKnown old new (TakesShort kept)
    → ((whole : List ℕ) → kept ≡ take LONGEST_LINE (short whole) → IsWrongLine before whole fault) → RefusesNext old new before fault
short_bad kept old new before fault taken whole = known_only {P = TakesShort kept}
    {Q = λ text left. IsWrongLine before (first_piece text) fault × (left ≡ after_line text)} old new taken (λ text left t. (whole (first_piece text) t.0, t.1))

-- ---- a line at hand

pub here_read : {T : Type 0} (line : List ℕ) (old new : Option (List ℕ)) (before after : NamedEvidence) (r : Result T EvidenceFault)
    → IfKnown old new (TakesFirst line) → OnOk r (IsAdded line before after) → IfErr r (IsWrongLine before line) → ReadsNext old new before after r
here_read line old new before after (Ok x) taken added wrong = (line, added, taken)
here_read line old new before after (Err fault) taken added wrong =
    known_only {P = TakesFirst line} {Q = λ text left. IsWrongLine before (first_piece text) fault × (left ≡ after_line text)} old new taken
    (λ text left t. (subst (λ l. IsWrongLine before l fault) (sym t.0) wrong, t.1))

pub short_read : {T : Type 0} (kept : List ℕ) (old new : Option (List ℕ)) (before after : NamedEvidence) (r : Result T EvidenceFault)
    → IfKnown old new (TakesShort kept) → OnOk r (IsAdded kept before after)
    → OnOk r ((whole : List ℕ) → kept ≡ take LONGEST_LINE (short whole) → IsAdded whole before after)
    → IfErr r (λ fault. (whole : List ℕ) → kept ≡ take LONGEST_LINE (short whole) → IsWrongLine before whole fault) → ReadsNext old new before after r
short_read kept old new before after (Ok x) taken one whole wrong = short_adds kept old new before after taken one whole
short_read kept old new before after (Err fault) taken one whole wrong = short_bad kept old new before fault taken wrong

-- ---- the header

pub no_line : (old new : Option (List ℕ)) → HasLine old new false → IfSome old (λ text. HasNoHeader text BadHeader 1)
no_line None new has = tt
no_line (Some text) None has = absurd has
no_line (Some []) (Some left) has = (refl, λ player rest e. absurd cc, refl)
no_line (Some (b ∷ text)) (Some left) (same, none) =
    absurd (let wrong : stream.line_of (b ∷ text) ∷ lines (after_line (b ∷ text)) ≡ [] = sym (lines_cons b text) ∙ none in cc)

first_same : (x y : List ℕ) (xs ys : List (List ℕ)) → x ∷ xs ≡ y ∷ ys → x ≡ y
first_same x y xs ys e = cc

pub header_is : (player : Player) (kept : List ℕ) (old mid new : Option (List ℕ)) → HasLine old mid true → IfKnown mid new (TakesShort kept)
    → kept ≡ header player → IfKnown old new (BeginsWith player)
header_is player kept None mid new has taken is = tt
header_is player kept (Some text) None new has taken is = absurd has
header_is player kept (Some text) (Some left) None has taken is = absurd taken
header_is player kept (Some text) (Some left) (Some rest) has (kept_is, after) is =
    next_taken (Some text) (Some left) (Some rest) (header player) has (a_header player kept (first_piece left) kept_is is, after)

pub header_none : (kept : List ℕ) (old mid new : Option (List ℕ)) → HasLine old mid true → IfKnown mid new (TakesShort kept) → IsNoHeader kept
    → IfSome old (λ text. HasNoHeader text BadHeader 1)
header_none kept None mid new has taken none = tt
header_none kept (Some text) None new has taken none = absurd has
header_none kept (Some text) (Some left) None has taken none = absurd taken
header_none kept (Some text) (Some left) (Some rest) has (is, after) none =
    let cut = next_taken (Some text) (Some left) (Some rest) (first_piece left) has (refl, after) in (
      refl,
      λ player others e. no_header kept (first_piece left) is none player
          (first_same (first_piece left) (header player) (pieces_of rest) others (sym cut ∙ e)),
      refl,
    )

-- nothing was done before it was read
pub still_read : {T : Type 0} (old mid new : Option (List ℕ)) (before here after : NamedEvidence) (r : Result T EvidenceFault)
    → IfKnown old mid (λ text left. left ≡ text) × (here ≡ before) → ReadsNext mid new here after r → ReadsNext old new before after r
still_read None mid new before here after (Ok x) (kept, same) (line, one, taken) = (line, subst (λ b. IsAdded line b after) same one, tt)
still_read None mid new before here after (Err fault) (kept, same) read = tt
still_read (Some text) None new before here after r (kept, same) read = absurd kept
still_read (Some text) (Some left) new before here after r (kept, same) read =
    subst (λ t. ReadsNext (Some t) new before after r) kept (subst (λ b. ReadsNext (Some left) new b after r) same read)
