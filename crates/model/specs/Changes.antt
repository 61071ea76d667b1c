-- Document 03, section 3, the column "effect": the state after each small change.
-- Which free frame is taken is left open: `pick` numbers the free frames in some order, the first is taken first.
use Rattle.std.specs.Prelude.{true, false, cond, ℕ, zero, suc, pred, ◌<◌, ◌%◌, ◌≡◌, eqb}
use Rattle.std.proofs.Math.Option.{Option, none, some}
use Rattle.model.specs.Base.{upd, upd2}
use Rattle.model.specs.State.{State, KindOfFrame, monitor, free, table, draining_table, page, draining_page, free_frames}
use Rattle.model.specs.Entry.{table_entry, page_entry}
use Rattle.model.specs.Translate.{Page, upper, index, entry_at, into, leaf, translate}

-- An order of the free frames: the law of the choice. It names as many frames as are free, each free, none twice.
pub record Choice (s : State) (pick : ℕ → ℕ) : Type 0 where
  pub frees : (i : ℕ) → i < free_frames s → s.kind (pick i) ≡ free
  pub once : (i j : ℕ) → i < free_frames s → j < i → pick i ≡ pick j → ⊥

-- the words of a frame that is all zero; a page that is shared with nobody
unfoldable pub zeros : ℕ → ℕ
zeros i = 0

-- frame f becomes k, with these words and shares
unfoldable pub becomes : State → (f : ℕ) → KindOfFrame → (word shared : ℕ → ℕ → ℕ) → State
becomes s f k w sh = record {
  size = s.size;
  first = s.first;
  kind = upd s.kind f k;
  shared = sh;
  count = s.count;
  exists = s.exists;
  root = s.root;
  dirty = s.dirty;
  word = w;
}

-- create: frame t becomes g's root table, all zero
unfoldable pub with_root : State → (g t : ℕ) → State
with_root s g t = record {
  size = s.size;
  first = s.first;
  kind = upd s.kind t (table g 3 0);
  shared = s.shared;
  count = s.count;
  exists = upd s.exists g true;
  root = upd s.root g t;
  dirty = s.dirty;
  word = upd s.word t zeros;
}

-- map: frame t', all zero, becomes g's table of height h, and entry i of table t leads to it; q is the range it serves
unfoldable pub with_table : State → (t i t' g h q : ℕ) → State
with_table s t i t' g h q = record {
  size = s.size;
  first = s.first;
  kind = upd s.kind t' (table g h q);
  shared = s.shared;
  count = s.count;
  exists = s.exists;
  root = s.root;
  dirty = s.dirty;
  word = upd2 (upd s.word t' zeros) t i (table_entry s.first t');
}

pub record Grown : Type 0 where
  pub state : State
  pub last : ℕ

-- map: the tables on the way to page v, below table t of height h, are there or are made
unfoldable pub grow : (h : ℕ) → State → (g t v : ℕ) → (ℕ → ℕ) → Grown
grow zero s g t v pick = record { state = s; last = t }
grow (suc h) s g t v pick =
    into (entry_at s t (index (suc h) v))
    (grow h (with_table s t (index (suc h) v) (pick 0) g h (upper (suc h) v)) g (pick 0) v (λ i. pick (suc i)))
    (λ t'. grow h s g t' v pick)

-- map: entry i of g's table t leads to page f with rights r; f's count grows by 1
unfoldable pub with_page : State → (t i f r g : ℕ) → State
with_page s t i f r g = record {
  size = s.size;
  first = s.first;
  kind = s.kind;
  shared = s.shared;
  count = upd2 s.count f g (suc (s.count f g));
  exists = s.exists;
  root = s.root;
  dirty = s.dirty;
  word = upd2 s.word t i (page_entry s.first f r);
}

unfoldable pub with_mapping : State → (f g v r : ℕ) → (ℕ → ℕ) → State
with_mapping s f g v r pick =
    let x = grow 3 s g (s.root g) v pick in
    with_page x.state x.last (v % 512) f r g

-- unmap: entry i of g's table t, which led to f, is empty; the count falls by 1; g becomes dirty
unfoldable pub without_page : State → (t i f g : ℕ) → State
without_page s t i f g = record {
  size = s.size;
  first = s.first;
  kind = s.kind;
  shared = s.shared;
  count = upd2 s.count f g (pred (s.count f g));
  exists = s.exists;
  root = s.root;
  dirty = upd s.dirty g true;
  word = upd2 s.word t i 0;
}

abbrev pub without_at : State → (g v : ℕ) → Option ℕ → Option Page → State
without_at s g v none p = s
without_at s g v (some t) none = s
without_at s g v (some t) (some p) = without_page s t (v % 512) p.0 g

unfoldable pub without_mapping : State → (g v : ℕ) → State
without_mapping s g v = without_at s g v (leaf s g v) (translate s g v)

-- destroy: g's tables and pages drain for g
unfoldable pub drained : ℕ → KindOfFrame → KindOfFrame
drained g monitor = monitor
drained g free = free
drained g (table h n p) = cond (eqb h g) (draining_table h n p) (table h n p)
drained g (draining_table h n p) = draining_table h n p
drained g (page h) = cond (eqb h g) (draining_page h) (page h)
drained g (draining_page h) = draining_page h

-- destroy: g no longer exists and is dirty; its own mappings go, and the counts with them
unfoldable pub without_guest : State → (g : ℕ) → State
without_guest s g = record {
  size = s.size;
  first = s.first;
  kind = λ f. drained g (s.kind f);
  shared = s.shared;
  count = λ f h. cond (eqb h g) 0 (s.count f h);
  exists = upd s.exists g false;
  root = s.root;
  dirty = upd s.dirty g true;
  word = s.word;
}

-- invalidated: what drains for g is free
unfoldable pub released : ℕ → KindOfFrame → KindOfFrame
released g monitor = monitor
released g free = free
released g (table h n p) = table h n p
released g (draining_table h n p) = cond (eqb h g) free (draining_table h n p)
released g (page h) = page h
released g (draining_page h) = cond (eqb h g) free (draining_page h)

unfoldable pub clean : State → (g : ℕ) → State
clean s g = record {
  size = s.size;
  first = s.first;
  kind = λ f. released g (s.kind f);
  shared = s.shared;
  count = s.count;
  exists = s.exists;
  root = s.root;
  dirty = upd s.dirty g false;
  word = s.word;
}
