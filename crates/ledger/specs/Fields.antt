-- The state with one field changed: what each function of this crate does, in the model's terms.
use Rattle.std.specs.Prelude.{Bool, ℕ}
use Rattle.model.specs.Base.{upd, upd2}
use Rattle.model.specs.State.{State, KindOfFrame}
use Rattle.model.specs.Changes.{zeros}

unfoldable pub remade : State → (kind : ℕ → KindOfFrame) (shared count : ℕ → ℕ → ℕ) (exists : ℕ → Bool) (root : ℕ → ℕ) (dirty : ℕ → Bool)
    (word : ℕ → ℕ → ℕ) → State
remade s k sh c e r d w = record {
  size = s.size;
  first = s.first;
  kind = k;
  shared = sh;
  count = c;
  exists = e;
  root = r;
  dirty = d;
  word = w;
}

unfoldable pub with_kind : (f : ℕ) → KindOfFrame → State → State
with_kind f k s = remade s (upd s.kind f k) s.shared s.count s.exists s.root s.dirty s.word

-- what frame f is turned by φ: drained for a guest, or released
unfoldable pub with_kind_by : (f : ℕ) → (KindOfFrame → KindOfFrame) → State → State
with_kind_by f φ s = with_kind f (φ (s.kind f)) s

-- both numbers of frame f's cell for guest g
unfoldable pub with_cell : (f g how c : ℕ) → State → State
with_cell f g how c s = remade s s.kind (upd2 s.shared f g how) (upd2 s.count f g c) s.exists s.root s.dirty s.word

unfoldable pub with_share : (f g how : ℕ) → State → State
with_share f g how s = remade s s.kind (upd2 s.shared f g how) s.count s.exists s.root s.dirty s.word

unfoldable pub with_no_shares : (f : ℕ) → State → State
with_no_shares f s = remade s s.kind (upd s.shared f zeros) s.count s.exists s.root s.dirty s.word

unfoldable pub with_count : (f g c : ℕ) → State → State
with_count f g c s = remade s s.kind s.shared (upd2 s.count f g c) s.exists s.root s.dirty s.word

unfoldable pub with_existence : (g : ℕ) → Bool → State → State
with_existence g b s = remade s s.kind s.shared s.count (upd s.exists g b) s.root s.dirty s.word

unfoldable pub with_root_at : (g t : ℕ) → State → State
with_root_at g t s = remade s s.kind s.shared s.count s.exists (upd s.root g t) s.dirty s.word

unfoldable pub with_dirt : (g : ℕ) → Bool → State → State
with_dirt g b s = remade s s.kind s.shared s.count s.exists s.root (upd s.dirty g b) s.word

unfoldable pub with_words : (ℕ → ℕ → ℕ) → State → State
with_words w s = remade s s.kind s.shared s.count s.exists s.root s.dirty w
