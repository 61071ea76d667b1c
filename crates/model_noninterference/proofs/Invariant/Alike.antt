-- Two machines that guest g cannot tell apart: the same ledger, the same words in every table, the same kept translations, the same
-- bytes in all that g may read.
-- Steps that go together keep it.
use mathlib.Core.Path.{◌≡◌, refl, sym, ap, ◌∙◌}
use mathlib.Core.Bool.{Bool, true, false, ◌&&◌, ◌||◌}
use mathlib.Core.Logic.{◌⊎◌, inl, inr, ◌↔◌}
use Prim.Native.Nat.{ℕ, suc, ◌+◌, ◌*◌, ◌<◌, ◌/◌, ◌%◌}
use native.Mathlib.Omega.{arith}
use lib.Dec.{eqb, ltb, leb}
use borrow.Author.Tests.{leb-true, le-leb, eq-eqb}
use Rattle.memory.specs.Ram.{ram_fits}
use Rattle.model.proofs.Laws.Base.{bool?}
use Rattle.model.specs.Base.{upd2}
use Rattle.model.proofs.Laws.Base.{upd2_other}
use Rattle.model.specs.State.{State, monitor, free, put_byte, byte, reworded, tabled}
use Rattle.model.specs.Translate.{index}
use Rattle.model.specs.Operations.{Out, refuse, done, check, at_first, started, set_up}
use Rattle.model.specs.Cache.{Caches, Table, from_root, from_kept, from_word, Translation, kept, read_off, descriptor, grown, forget, nothing_kept, Access, reading, writing, executing, Reach}
use Rattle.model.specs.Machine.{Machine, Operation, Create, Give, Take, Map, Unmap, Share, Unshare, Destroy, Invalidated, answer, Chooses, keeps, settle, call, stored, write, Step, calls, stores, SetUp, Reaches}
use Rattle.model.specs.Terms.{lends, Allowed}
use Rattle.model_noninterference.specs.TwoRunsTerms.{shown, SameBytes, Shows, answered, Stores, Together, both_call, both_store, first_stores, second_stores, TwoRuns, stop, then, SameStart, SameLedger}
use Rattle.model.specs.Invariant.{Core, Kept}
use Rattle.model.proofs.Invariant.Found.{table_found}
use Rattle.model.proofs.Invariant.Answer.{then_done, Good}
use Rattle.model.proofs.Invariant.Holds.{Holds, answer_good, step_holds, set_up_holds}
use Rattle.model.proofs.Invariant.Allowed.{frame_allowed}
use Rattle.model_noninterference.proofs.Invariant.Agrees.{Agrees, agrees_stored, agrees_apart, agrees_turned}
use Rattle.model_noninterference.proofs.Invariant.SameAnswers.{Both, both_refuse, both_done, Echo, answer_echo, frame_bytes, bytes_frame}

-- the same translations are kept, for every guest
pub record SameKept (k k' : Caches) : Type 0 where
  pub tables : (g h p x : ℕ) → k.table_kept g h p x ↔ k'.table_kept g h p x
  pub page_count : (g v x r : ℕ) → k.page_kept g v x r ↔ k'.page_kept g v x r

pub record Alike (g : ℕ) (y z : Machine) : Type 0 where
  pub state : Echo g y.state z.state
  pub caches : SameKept y.caches z.caches

-- what the processor finds in tables with the same words
module _ (s : State) (k : Caches) (c : Core s) (q : Kept s k) (w : ℕ → ℕ → ℕ) (k' : Caches)
    (ws : (t : ℕ) → tabled (s.kind t) ≡ true → (i : ℕ) → w t i ≡ s.word t i)
    (kt : (g h p x : ℕ) → k.table_kept g h p x → k'.table_kept g h p x)
    (kp : (g v x r : ℕ) → k.page_kept g v x r → k'.page_kept g v x r) (g : ℕ) where
  is_tabled : {h p x : ℕ} → Table s k g h p x → (t : ℕ) → x ≡ s.first + t → tabled (s.kind t) ≡ true
  is_tabled {h} {p} {x} a t e =
      let b = table_found s k c q g a in
      let b1 = b.1 in
      let t= : b.0 ≡ t = omega arith in
      elim (rw t= at b.2) [ inl z ↦ ap tabled z | inr z ↦ ap tabled z ]

  table_echo : {h p x : ℕ} → Table s k g h p x → Table (reworded s w) k' g h p x
  table_echo (from_root l e) = from_root l e
  table_echo (from_kept {h} {p} {x} a) = from_kept (kt g h p x a)
  table_echo (from_word {h} {p} {x} {y} a t i e l m d) = from_word (table_echo a) t i e l m
      (ap (descriptor (suc h)) (ws t (is_tabled a t e) i) ∙ d)

  pub page_echo : {v x r : ℕ} → Translation s k g v x r → Translation (reworded s w) k' g v x r
  page_echo {v} (kept {x} {r} a) = kept (kp g v x r a)
  page_echo {v} (read_off {x} {r} h y t p a e l d o) = read_off h y t p (table_echo a) e l
      (ap (descriptor h) (ws t (is_tabled a t e) (index h v)) ∙ d) o

reworded_kept : (g : ℕ) (s : State) (w : ℕ → ℕ → ℕ) (k k' : Caches) → Core s → Kept s k → Core (reworded s w) → Kept (reworded s w) k' →
    Agrees g s.kind s.shared s.word w →
    SameKept k k' → SameKept (grown s k) (grown (reworded s w) k')
unfolding grown
reworded_kept g s w k k' c q c' q' m x = record {
  tables = λ g h p y. (
    table_echo s k c q w k' m.tables (λ g h p y. (x.tables g h p y).0) (λ g v y r. (x.page_count g v y r).0) g,
    table_echo (reworded s w) k' c' q' s.word k (λ t e i. sym (m.tables t e i)) (λ g h p y. (x.tables g h p y).1)
        (λ g v y r. (x.page_count g v y r).1) g,
  );
  page_count = λ g v y r. (
    page_echo s k c q w k' m.tables (λ g h p y. (x.tables g h p y).0) (λ g v y r. (x.page_count g v y r).0) g,
    page_echo (reworded s w) k' c' q' s.word k (λ t e i. sym (m.tables t e i)) (λ g h p y. (x.tables g h p y).1)
        (λ g v y r. (x.page_count g v y r).1) g,
  );
}

pub grown_same : (g : ℕ) (s s' : State) (k k' : Caches) → Core s → Kept s k → Core s' → Kept s' k' → Echo g s s' → SameKept k k' →
    SameKept (grown s k) (grown s' k')
grown_same g s s' k k' c q c' q' e x =
    let e1 = e.1 in
    rw e1 (reworded_kept g s e.0 k k' c q (rw e1 at c') (rw e1 at q') e.2 x)

forget_same : (k k' : Caches) (g : ℕ) → SameKept k k' → SameKept (forget k g) (forget k' g)
unfolding forget
forget_same k k' g x = record {
  tables = λ h n p y. (λ a. (a.0, (x.tables h n p y).0 a.1), λ a. (a.0, (x.tables h n p y).1 a.1));
  page_count = λ h v y r. (λ a. (a.0, (x.page_count h v y r).0 a.1), λ a. (a.0, (x.page_count h v y r).1 a.1));
}

keeps_same : (k k' : Caches) (o : Operation) → SameKept k k' → SameKept (keeps k o) (keeps k' o)
unfolding keeps
keeps_same k k' (Create g pick) x = x
keeps_same k k' (Give f g) x = x
keeps_same k k' (Take f g) x = x
keeps_same k k' (Map f g a r pick) x = x
keeps_same k k' (Unmap a g) x = x
keeps_same k k' (Share g f h w) x = x
keeps_same k k' (Unshare g f h) x = x
keeps_same k k' (Destroy g) x = x
keeps_same k k' (Invalidated g) x = forget_same k k' g x

-- an operation
settled_alike : (g : ℕ) (y z : Machine) → Holds y → Holds z → Alike g y z → (k k' : Caches) → SameKept k k' → {x x' : Out} →
    Both (Echo g) x x' → Good k x → Good k' x' → Alike g (settle y k x) (settle z k' x')
unfolding settle
settled_alike g y z hy hz a k k' q both_refuse u u' = record {
  state = a.state;
  caches = grown_same g y.state z.state y.caches z.caches hy.core hy.kept hz.core hz.kept a.state a.caches;
}
settled_alike g y z hy hz a k k' q (both_done {s} {s'} e) (then_done u) (then_done u') = record {
  state = e;
  caches = grown_same g s s' k k' u.core u.kept u'.core u'.kept e q;
}

module _ (g : ℕ) (y z : Machine) (hy : Holds y) (hz : Holds z) (a : Alike g y z) where
  called_alike : (o : Operation) → Chooses y.state o → Chooses z.state o →
      ((f : ℕ) → Shows o g f → answered (answer y.state o) ≡ true → SameBytes y.state z.state f f) →
      Alike g (call y o) (call z o)
  unfolding call
  called_alike o ch ch' x =
      let e = a.state in
      let e1 = e.1 in
      let b = answer_echo g y.state hy.core e.0 e.2 o ch
      (λ f n d. rw (ap (λ (s : State). s.word f) e1) at (frame_bytes y.state z.state f f (x f n d))) in
      settled_alike g y z hy hz a (keeps y.caches o) (keeps z.caches o) (keeps_same y.caches z.caches o a.caches) (rw e1 b)
      (answer_good y.state hy.core y.caches hy.kept o ch) (answer_good z.state hz.core z.caches hz.kept o ch')

  -- the same store in both
  both_stored : (f o x : ℕ) → x < 256 → tabled (y.state.kind f) ≡ false → Echo g (stored y.state f o x) (stored z.state f o x)
  unfolding stored
  both_stored f o x lx n =
      let e = a.state in
      let e1 = e.1 in
      rw e1 (
        upd2 e.0 f (o / 8) (put_byte (o % 8) (e.0 f (o / 8)) x),
        refl,
        agrees_stored g y.state.kind y.state.shared y.state.word e.0 e.2 f o x lx n,
      )

  -- a store in one of them, to a frame that is not shown
  first_stored : (f o x : ℕ) → tabled (y.state.kind f) ≡ false → shown y.state g f ≡ false →
      Echo g (stored y.state f o x) z.state
  unfolding stored
  first_stored f o x n hid =
      let e = a.state in (
        e.0,
        e.1,
        agrees_apart g y.state.kind y.state.shared y.state.word e.0 e.2
            (upd2 y.state.word f (o / 8) (put_byte (o % 8) (y.state.word f (o / 8)) x)) f
            (λ u i ne. upd2_other y.state.word f (o / 8) (put_byte (o % 8) (y.state.word f (o / 8)) x) u i (λ p q. ne p)) n hid,
      )

allowed_page : (s : State) (h f : ℕ) (w : Access) → Allowed s h f w → tabled (s.kind f) ≡ false
allowed_page s h f w (inl x) = ap tabled x
allowed_page s h f w (inr (inl x)) = ap tabled x.1
allowed_page s h f w (inr (inr x)) = ap tabled x

pub stores_page : {m : Machine} → Holds m → {h f o x : ℕ} → Stores m h f o x → tabled (m.state.kind f) ≡ false
stores_page {m} k {h} {f} {o} {x} r = let l = r.in_frame in allowed_page m.state h f writing
    (frame_allowed k h writing ((m.state.first + f) * 4096 + o) f (omega arith) r.reaches)

pub stores_step : {m : Machine} {h f o x : ℕ} → Stores m h f o x → Step m (write m f o x)
stores_step {m} {h} {f} {o} {x} r = stores h f o x r.lives r.in_ram r.in_frame r.is_byte r.reaches

-- from the other side
turned_kept : (k k' : Caches) → SameKept k k' → SameKept k' k
turned_kept k k' x = record {
  tables = λ g h p y. ((x.tables g h p y).1, (x.tables g h p y).0);
  page_count = λ g v y r. ((x.page_count g v y r).1, (x.page_count g v y r).0);
}

turned_echo : (g : ℕ) (s s' : State) → Echo g s s' → Echo g s' s
turned_echo g s s' e =
    let e1 = e.1 in
    rw e1 (s.word, refl, agrees_turned g s.kind s.shared s.word e.0 e.2)

pub turned : {g : ℕ} {y z : Machine} → Alike g y z → Alike g z y
turned {g} {y} {z} a = record {
  state = turned_echo g y.state z.state a.state;
  caches = turned_kept y.caches z.caches a.caches;
}

-- The processor has kept all that it can find: so it is after every step.
pub record Closed (s : State) (k : Caches) : Type 0 where
  pub tables : (g h p x : ℕ) → Table s k g h p x → k.table_kept g h p x
  pub page_count : (g v x r : ℕ) → Translation s k g v x r → k.page_kept g v x r

table_again : (s : State) (k : Caches) (g : ℕ) {h p x : ℕ} → Table s (grown s k) g h p x → Table s k g h p x
unfolding grown
table_again s k g (from_root l e) = from_root l e
table_again s k g (from_kept a) = a
table_again s k g (from_word a t i e l m d) = from_word (table_again s k g a) t i e l m d

page_again : (s : State) (k : Caches) (g v : ℕ) {x r : ℕ} → Translation s (grown s k) g v x r → Translation s k g v x r
unfolding grown
page_again s k g v (kept a) = a
page_again s k g v (read_off h y t p a e l d o) = read_off h y t p (table_again s k g a) e l d o

pub grown_closed : (s : State) (k : Caches) → Closed s (grown s k)
unfolding grown
grown_closed s k = record { tables = λ g h p x a. table_again s k g a; page_count = λ g v x r a. page_again s k g v a }

settled_closed : (m : Machine) (k : Caches) (x : Out) → Closed (settle m k x).state (settle m k x).caches
unfolding settle
settled_closed m k (refuse n) = grown_closed m.state m.caches
settled_closed m k (done s) = grown_closed s k

pub step_closed : {m m' : Machine} → Step m m' → Closed m'.state m'.caches
unfolding call write
step_closed (calls {m} o ch) = settled_closed m (keeps m.caches o) (answer m.state o)
step_closed (stores {m} h f o x a b c d e) = grown_closed (stored m.state f o x) m.caches

closed_same : (s : State) (k k' : Caches) → Closed s k' → SameKept k (grown s k') → SameKept k k'
unfolding grown
closed_same s k k' c x = record {
  tables = λ g h p y. (λ a. c.tables g h p y ((x.tables g h p y).0 a), λ a. (x.tables g h p y).1 (from_kept a));
  page_count = λ g v y r. (λ a. c.page_count g v y r ((x.page_count g v y r).0 a), λ a. (x.page_count g v y r).1 (kept a));
}

-- what was kept is among what is found
kept_below : (s : State) (k : Caches) → Kept s (grown s k) → Kept s k
unfolding grown
kept_below s k q = record {
  table_ok = λ g h p x a. q.table_ok g h p x (from_kept a);
  page_ok = λ g v x r a. q.page_ok g v x r (kept a);
  table_now = λ g h p x d a. q.table_now g h p x d (from_kept a);
  page_now = λ g v x r d a. q.page_now g v x r d (kept a);
}

pub written : {m : Machine} → Holds m → {h f o x : ℕ} → Stores m h f o x →
    Core (stored m.state f o x) × Kept (stored m.state f o x) m.caches
written {m} k {h} {f} {o} {x} r = go (step_holds (stores_step r) k)
  where
    go : Holds (write m f o x) → Core (stored m.state f o x) × Kept (stored m.state f o x) m.caches
    go n = unfold write in (n.core, kept_below (stored m.state f o x) m.caches n.kept)

-- stores
written_alike : (g : ℕ) (y z : Machine) (hy : Holds y) (hz : Holds z) (a : Alike g y z) (h f o x : ℕ) → Stores y h f o x →
    Stores z h f o x → Alike g (write y f o x) (write z f o x)
unfolding write
written_alike g y z hy hz a h f o x r r' =
    let u = written hy r in
    let u' = written hz r' in
    let e = both_stored g y z hy hz a f o x r.is_byte (stores_page hy r) in
    record {
      state = e;
      caches = grown_same g (stored y.state f o x) (stored z.state f o x) y.caches z.caches u.0 u.1
          u'.0 u'.1 e a.caches;
    }

written_apart : (g : ℕ) (y z : Machine) (hy : Holds y) (hz : Holds z) → Closed z.state z.caches → (a : Alike g y z) (h f o x : ℕ) →
    Stores y h f o x → shown y.state g f ≡ false → Alike g (write y f o x) z
unfolding write
written_apart g y z hy hz cl a h f o x r hid =
    let u = written hy r in
    let e = first_stored g y z hy hz a f o x (stores_page hy r) hid in
    let k = grown_same g (stored y.state f o x) z.state y.caches z.caches u.0 u.1 hz.core hz.kept e a.caches in
    record { state = e; caches = closed_same z.state (grown (stored y.state f o x) y.caches) z.caches cl k }

-- the two machines, with what holds of each
pub record Pair (g : ℕ) (y z : Machine) : Type 0 where
  pub first : Holds y
  pub second : Holds z
  pub first_closed : Closed y.state y.caches
  pub second_closed : Closed z.state z.caches
  pub alike : Alike g y z

pub together : {g : ℕ} {y z y' z' : Machine} → Together g y z y' z' → Pair g y z → Pair g y' z'
together {g} (both_call {y} {z} o ch ch' x) p = record {
  first = step_holds (calls o ch) p.first;
  second = step_holds (calls o ch') p.second;
  first_closed = step_closed (calls {m = y} o ch);
  second_closed = step_closed (calls {m = z} o ch');
  alike = called_alike g y z p.first p.second p.alike o ch ch' x;
}
together {g} (both_store {y} {z} h f o x r r') p = record {
  first = step_holds (stores_step r) p.first;
  second = step_holds (stores_step r') p.second;
  first_closed = step_closed (stores_step r);
  second_closed = step_closed (stores_step r');
  alike = written_alike g y z p.first p.second p.alike h f o x r r';
}
together {g} (first_stores {y} {z} h f o x r hid) p = record {
  first = step_holds (stores_step r) p.first;
  second = p.second;
  first_closed = step_closed (stores_step r);
  second_closed = p.second_closed;
  alike = written_apart g y z p.first p.second p.second_closed p.alike h f o x r hid;
}
together {g} (second_stores {y} {z} h f o x r hid) p = record {
  first = p.first;
  second = step_holds (stores_step r) p.second;
  first_closed = p.first_closed;
  second_closed = step_closed (stores_step r);
  alike = turned (written_apart g z y p.second p.first p.first_closed (turned p.alike) h f o x r hid);
}

pub together_all : {g : ℕ} {y z y' z' : Machine} → TwoRuns g y z y' z' → Pair g y z → Pair g y' z'
together_all stop p = p
together_all (then x r) p = together_all r (together x p)

-- right after set-up: nothing is shown, and nothing was kept
pub started_is : (fits : Bool) (b n k : ℕ) (w : ℕ → ℕ → ℕ) (s : State) → set_up fits b n k w ≡ done s → s ≡ started b n k w
unfolding set_up check
started_is fits b n k w s e = go (fits && ram_fits b n && ltb k n) e
  where
    go : (t : Bool) → check t 4 (done (started b n k w)) ≡ done s → s ≡ started b n k w
    go true e = cc
    go false e = let z : ◌≡◌ {A = ℕ} 0 1 = cc in absurd (omega arith)

pub started_kind : (n k f : ℕ) → (at_first n k f ≡ monitor) ⊎ (at_first n k f ≡ free)
unfolding at_first
started_kind n k f = elim (bool? (ltb f k || leb n f)) [ inl e ↦ inl (rw e) | inr e ↦ inr (rw e) ]

started_echo : (g b n k : ℕ) (w w' : ℕ → ℕ → ℕ) → Echo g (started b n k w) (started b n k w')
unfolding started
started_echo g b n k w w' = (
  w',
  refl,
  record {
    tables = λ t e. elim (started_kind n k t) [
      | inl x ↦ let z : false ≡ true = rw x at e in absurd (never z)
      | inr x ↦ let z : false ≡
          true = rw x at e in absurd (never z)
    ];
    page_count = λ f e. elim (started_kind n k f) [
      | inl x ↦ let z : false ≡ true = rw x at e in absurd (never z)
      | inr x ↦ let z : false ≡
          true = rw x at e in absurd (never z)
    ];
  },
)
  where
    never : false ≡ true → ⊥
    never e = let z : ◌≡◌ {A = ℕ} 0 1 = cc in omega arith

pub nothing_found : (s : State) → ((g : ℕ) → s.exists g ≡ false) → Closed s nothing_kept
nothing_found s e = record { tables = λ g h p x a. none g a; page_count = λ g v x r a. none_page g v a }
  where
    none : (g : ℕ) {h p x : ℕ} → Table s nothing_kept g h p x → ⊥
    none g (from_root l q) = let z : false ≡ true = sym (e g) ∙ l in let z : ◌≡◌ {A = ℕ} 0 1 = cc in omega arith
    none g (from_kept a) = a
    none g (from_word a t i q l m d) = none g a

    none_page : (g v : ℕ) {x r : ℕ} → Translation s nothing_kept g v x r → ⊥
    none_page g v (kept a) = a
    none_page g v (read_off h y t p a q l d o) = none g a

pub set_up_closed : {m : Machine} → SetUp m → Closed m.state m.caches
set_up_closed {m} x = rw x.fresh (nothing_found m.state
    (λ g. ap (λ (s : State). s.exists g) (started_is true x.b x.n x.k x.word m.state x.accepted)
    ∙ (unfold started in refl)))

pub started_pair : (g : ℕ) {y z : Machine} → SameStart y z → Pair g y z
started_pair g {y} {z} x = record {
  first = set_up_holds x.first;
  second = set_up_holds x.second;
  first_closed = set_up_closed x.first;
  second_closed = set_up_closed x.second;
  alike = record { state = echo; caches = same_caches x.first.fresh x.second.fresh };
}
  where
    same_numbers : (n n' b b' k k' : ℕ) (w w' : ℕ → ℕ → ℕ) → n ≡ n' → b ≡ b' → k ≡ k' → Echo g (started b n k w) (started b' n' k' w')
    same_numbers n n' b b' k k' w w' p q r = rw (p, q, r) (started_echo g b' n' k' w w')

    echo : Echo g y.state z.state
    echo =
        let a = x.first in
        let b = x.second in
        rw (
          started_is true a.b a.n a.k a.word y.state a.accepted,
          started_is true b.b b.n b.k b.word z.state b.accepted,
        )
        (same_numbers a.n b.n a.b b.b a.k b.k a.word b.word x.same_n x.same_b x.same_k)

    nothing : SameKept nothing_kept nothing_kept
    nothing = record { tables = λ g h p x. (λ a. a, λ a. a); page_count = λ g v x r. (λ a. a, λ a. a) }

    same_caches : y.caches ≡ nothing_kept → z.caches ≡ nothing_kept → SameKept y.caches z.caches
    same_caches p q = rw (p, q) nothing

-- what the theorems say of a pair
pub pair_ledger : {g : ℕ} {y z : Machine} → Pair g y z → SameLedger y.state z.state
pair_ledger {g} {y} {z} p =
    let e = p.alike.state in
    let e1 = e.1 in
    rw e1 (record {
      size = refl;
      first = refl;
      kind = refl;
      shared = refl;
      count = refl;
      exists = refl;
      root = refl;
      dirty = refl;
      tables = λ t h n q a i. sym (e.2.tables t (ap tabled a) i);
      draining_tables = λ t h n q a i. sym (e.2.tables t (ap tabled a) i);
    })

pub pair_reach : {g : ℕ} {y z : Machine} → Pair g y z → (h : ℕ) (w : Access) (a : ℕ) → Reaches y h w a → Reaches z h w a
unfolding Reach
pair_reach {g} {y} {z} p h w a x = (
  x.0,
  x.1,
  kept ((p.alike.caches.page_count h x.0 (a / 4096) x.1).0
      (p.first_closed.page_count h x.0 (a / 4096) x.1 x.2)),
  x.3,
)

pub lends_reads : (how : ℕ) (w : Access) → lends how w ≡ true → leb 1 how ≡ true
lends_reads how reading e = e
lends_reads how writing e = let l = leb-true 2 how e in le-leb 1 how (omega arith)
lends_reads how executing e = let z : ◌≡◌ {A = ℕ} 0 1 = cc in absurd (omega arith)

pub allowed_shown : (s : State) (g f : ℕ) (w : Access) → Allowed s g f w → shown s g f ≡ true
allowed_shown s g f w (inl x) = rw (x, eq-eqb g g refl)
allowed_shown s g f w (inr (inl x)) = rw (x.1, lends_reads (s.shared f g) w x.2) (or_true (eqb x.0 g))
  where
    or_true : (b : Bool) → (b || true) ≡ true
    or_true true = refl
    or_true false = refl
allowed_shown s g f w (inr (inr x)) = rw (x, eq-eqb g g refl)

pub pair_bytes : {g : ℕ} {y z : Machine} → Pair g y z → (w : Access) (a f : ℕ) → a / 4096 ≡ y.state.first + f → Reaches y g w a →
    byte y.state f (a % 4096) ≡ byte z.state f (a % 4096)
pair_bytes {g} {y} {z} p w a f e x =
    let q = p.alike.state in
    let q1 = q.1 in
    let b = bytes_frame y.state (reworded y.state q.0) f f
    (q.2.page_count f (allowed_shown y.state g f w (frame_allowed p.first g w a f e x))) (a % 4096) (omega arith) in
    rw q1 b

pub pair_turned : {g : ℕ} {y z : Machine} → Pair g y z → Pair g z y
pair_turned p = record {
  first = p.second;
  second = p.first;
  first_closed = p.second_closed;
  second_closed = p.first_closed;
  alike = turned p.alike;
}
