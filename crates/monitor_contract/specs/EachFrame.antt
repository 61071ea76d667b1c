-- A loop over all frames, as invalidated and destroy make it: the frames below i are done, the others are as they were. When all are done,
-- the frames past the last are as if they were done too.
use Rattle.std.specs.Prelude.{cond, ℕ, ltb, List}
use Rattle.model.specs.Base.{upd}
use Rattle.model.specs.State.{State, KindOfFrame}
use Rattle.ledger.specs.Layout.{size_of}
use Rattle.ledger.specs.Fields.{remade}
use Rattle.ledger.specs.LedgerSound.{Changed}

-- k, but K of it below i
unfoldable pub below : {A : Type 0} → (A → A) → ℕ → (ℕ → A) → ℕ → A
below K i k f = cond (ltb f i) (K (k f)) (k f)

-- the state with other kinds and counts
unfoldable pub with_rows : (ℕ → KindOfFrame) → (ℕ → ℕ → ℕ) → State → State
with_rows k c s = remade s k s.shared c s.exists s.root s.dirty s.word

-- Each turn of a loop over the frames changes what one frame is, by K, and its counts, by C: one turn, the turns below frame i, all of
-- them.
unfoldable pub frame_turned : (K : KindOfFrame → KindOfFrame) (C : (ℕ → ℕ) → ℕ → ℕ) (f : ℕ) → State → State
frame_turned K C f s = with_rows (upd s.kind f (K (s.kind f))) (upd s.count f (C (s.count f))) s

unfoldable pub turned_below : (K : KindOfFrame → KindOfFrame) (C : (ℕ → ℕ) → ℕ → ℕ) (i : ℕ) → State → State
turned_below K C i s = with_rows (below K i s.kind) (below C i s.count) s

unfoldable pub all_turned : (K : KindOfFrame → KindOfFrame) (C : (ℕ → ℕ) → ℕ → ℕ) → State → State
all_turned K C s = with_rows (λ f. K (s.kind f)) (λ f. C (s.count f)) s

-- the ledger when every frame's turn was
abbrev pub EachTurned : (K : KindOfFrame → KindOfFrame) (C : (ℕ → ℕ) → ℕ → ℕ) (l l' : List ℕ) → Type 0
EachTurned K C l l' = Changed (turned_below K C (size_of l)) l l'

-- the turn of invalidated, and of destroy
abbrev pub same : (ℕ → ℕ) → ℕ → ℕ
same c = c

abbrev pub without : (g : ℕ) → (ℕ → ℕ) → ℕ → ℕ
without g c = upd c g 0
