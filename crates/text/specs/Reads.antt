-- What a reader promises.
use Rattle.std.specs.Prelude.{◌≡◌, ℕ, List, Option, None, Result, IfOk, IfErr, IfSome}

-- `spells`: what a text spells, limits apart. `answers`: what may be answered. `due`: what must be answered. `faulty`: the fault that decides, with
-- its place. `view`: the value that an answer stands for. `named`: the fault that an error tells, with its place, or none. `text`: the bytes that
-- the reader had left, where these are known.
pub record Reads {A V E F : Type 0} (spells answers due : List ℕ → V → Type 0) (faulty : List ℕ → F → Type 0) (view : A → V) (named : E → Option F)
    (text : Option (List ℕ)) (result : Result A E) : Type 0 where
  -- what is answered may be
  pub spelled : IfOk result (λ a. IfSome text (λ bytes. answers bytes (view a)))
  -- the text spells nothing else
  pub only : IfOk result (λ a. IfSome text (λ bytes. (other : V) → spells bytes other → other ≡ view a))
  -- what is due is refused only where something fails that is no fault of the text
  pub complete : IfErr result (λ e. IfSome text (λ bytes. (v : V) → due bytes v → named e ≡ None))
  -- a text with a deciding fault is never answered
  pub none : IfOk result (λ _. IfSome text (λ bytes. (fault : F) → faulty bytes fault → ⊥))
  -- no other fault is told than the one that decides
  pub exact : IfErr result (λ e. IfSome text (λ bytes. (fault : F) → faulty bytes fault → IfSome (named e) (λ told. told ≡ fault)))
  -- a fault that is told decides
  pub fault : IfErr result (λ e. IfSome text (λ bytes. IfSome (named e) (faulty bytes)))
