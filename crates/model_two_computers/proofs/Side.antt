-- One computer. G is all that c can have found and that was not reported since, as if the processor had always looked and kept all.
use mathlib.Core.Path.{◌≡◌, refl, sym, ap, ◌∙◌}
use mathlib.Core.Bool.{Bool, true, false, true≢false}
use mathlib.Core.Logic.{◌⊎◌, inl, inr}
use Prim.Native.Nat.{ℕ, ◌+◌, ◌/◌}
use Rattle.model.proofs.Laws.Base.{eq?, upd_other}
use Rattle.model_moves.specs.Spaces.{Spaces, Space, table, exists, Leads}
use Rattle.model_moves.specs.Cache.{Caches, Table, from_root, from_kept, from_word, Translation, kept, read_off, forget}
use Rattle.model_moves.specs.Moves.{closed, Move, put, claim, link, enter, clear, unhook, hand, lend, retire, release, open_space, end, dissolve, Report, reported}
use Rattle.model_moves.specs.Machine.{Machine, with_spaces, Step, moves, reports, looks, stores}
use Rattle.model_moves.proofs.Invariant.Beside.{first_same, beside, store_leads}
use Rattle.model_two_computers.specs.Terms.{Aside}
use Rattle.model_moves.proofs.Invariant.Core.{Core, Kept, PageOk, Gone, one_way}
use Rattle.model_moves.proofs.Invariant.Found.{traced}
use Rattle.model_moves.proofs.Invariant.Ledger.{Holds, put_holds}
use Rattle.model_moves.proofs.Invariant.Report.{report_core, report_kept, stays?, stale_stays}
use Rattle.model_moves.proofs.Invariant.Holds.{Good, Belongs, belongs_at, belongs_untabled, store_frame, move_holds, step_good}

abbrev pub Ghost : Type 1
Ghost = (v x r : ℕ) → Type 0

abbrev pub only : (c : ℕ) → Ghost → Caches
only c G = record { table_kept = λ d h p x. ⊥; page_kept = λ d v x r. (d ≡ c) × G v x r; level_kept = λ d v l. ⊥ }

-- the processor can come to a table of c
abbrev pub Comes : Machine → (c : ℕ) → Type 0
Comes m c = (exists m.spaces c ≡ true) ⊎ ((h p x : ℕ) × m.caches.table_kept c h p x)

comes : (m : Machine) {c h p x : ℕ} → Table m.spaces m.caches c h p x → Comes m c
comes m (from_root l e i z) = inl l
comes m (from_kept {h} {p} {x} a) = inr (h, p, x, a)
comes m (from_word t a e l i) = comes m a

less_kept : (s : Spaces) (c : ℕ) (G : Ghost) (k : Caches) → Kept s k → ((v x r : ℕ) → G v x r → k.page_kept c v x r) → Kept s (only c G)
less_kept s c G k q g = record {
  table_ok = λ d h p x a. absurd a;
  page_ok = λ d v x r a. rw a.0 (q.page_ok c v x r (g v x r a.1));
  one = λ d v x r x' r' a b. q.one c v x r x' r' (g v x r a.1) (g v x' r' b.1);
  one_table = λ d h p x x' a b. absurd a;
  table_gone = λ d h p x a. absurd a;
  page_gone = λ d v x r a. rw a.0 (q.page_gone c v x r (g v x r a.1));
}

-- what the tables lead to now is found too
abbrev pub grow : (c : ℕ) → Spaces → Ghost → Ghost
grow c s G v x r = G v x r ⊎ ((f : ℕ) × (x ≡ s.first + f) × Leads s c v f r)

grow_kept : (s : Spaces) (c : ℕ) (G : Ghost) → Core s → exists s c ≡ true → Kept s (only c G) → Kept s (only c (grow c s G))
grow_kept s c G k live q = record {
  table_ok = λ d h p x a. absurd a;
  page_ok = λ d v x r a. rw a.0 (ok v x r a.1);
  one = λ d v x r x' r' a b. one v x r x' r' a.1 b.1;
  one_table = λ d h p x x' a b. absurd a;
  table_gone = λ d h p x a. absurd a;
  page_gone = λ d v x r a l. absurd (true≢false (sym live ∙ ap (exists s) (sym a.0) ∙ l));
}
  where
    ok : (v x r : ℕ) → grow c s G v x r → PageOk s c v x r
    ok v x r (inl g) = q.page_ok c v x r (refl, g)
    ok v x r (inr w) = (w.0, w.1, inl w.2)

    led : (v x r f' r' : ℕ) → grow c s G v x r → Leads s c v f' r' → (x ≡ s.first + f') × (r ≡ r')
    led v x r f' r' a l = let p = ok v x r a in elim p.2 [
      | inl w ↦ let e = one_way s k c v p.0 r f' r' w l in (p.1 ∙ ap (λ (i : ℕ). s.first + i) e.0, e.1)
      | inr w ↦ absurd (w.0 f' r' l)
    ]

    one : (v x r x' r' : ℕ) → grow c s G v x r → grow c s G v x' r' → (x ≡ x') × (r ≡ r')
    one v x r x' r' (inl a) (inl b) = q.one c v x r x' r' (refl, a) (refl, b)
    one v x r x' r' (inl a) (inr b) = let e = led v x r b.0 r' (inl a) b.2 in (e.0 ∙ sym b.1, e.1)
    one v x r x' r' (inr a) b = let e = led v x' r' a.0 r b a.2 in (a.1 ∙ sym e.0, sym e.1)

-- one computer
pub record Side (c : ℕ) (G : Ghost) (m : Machine) : Type 0 where
  pub good : Good m
  pub holds : Holds m.spaces (only c G)
  pub kept_in : (v x r : ℕ) → m.caches.page_kept c v x r → G v x r
  pub led_in : Comes m c → (v f r : ℕ) → Leads m.spaces c v f r → G v (m.spaces.first + f) r

pub found_in : {c : ℕ} {G : Ghost} {m : Machine} → Side c G m → (v x r : ℕ) → Translation m.spaces m.caches c v x r → G v x r
found_in S v x r (kept a) = S.kept_in v x r a
found_in {c} {G} {m} S v x r (read_off h z t y a e l i o) =
    go (traced m.spaces m.caches S.good.core S.good.kept (read_off h z t y a e l i o))
  where
    go : (m.caches.page_kept c v x r ⊎ ((f : ℕ) × (x ≡ m.spaces.first + f) × Leads m.spaces c v f r)) → G v x r
    go (inl b) = S.kept_in v x r b
    go (inr b) = rw b.1 (S.led_in (comes m a) v b.0 r b.2)

pub ghost_belongs : {c : ℕ} {G : Ghost} {m : Machine} → Side c G m → (v f r : ℕ) → G v (m.spaces.first + f) r → Belongs m.spaces c f r
ghost_belongs {c} {G} {m} S v f r g = belongs_at m.spaces (only c G) S.holds {c = c} {v = v} {r = r} (kept (refl, g)) f refl

-- a space that exists after a move existed, or had no table
begins : {s s' : Spaces} (a : Move s s') (c : ℕ) → exists s' c ≡ true → (exists s c ≡ true) ⊎ ((t h p : ℕ) → s.kind t ≡ table c h p → ⊥)
begins (put f i x u) d e = inl e
begins (claim t c h p m) d e = inl e
begins (link t t' c h q x m) d e = inl e
begins (enter t c h q x y r m) d e = inl e
begins (clear t c h q x y r S j m) d e = inl e
begins (unhook t t' c h q x S j W m) d e = inl e
begins (hand f g z w) d e = inl e
begins (lend f c how m) d e = inl e
begins (retire P g W m) d e = inl e
begins (release P m) d e = inl e
begins {s} (open_space c n m) d e = elim (eq? d c) [
  | inl p ↦ inr (λ t h q z. (m.none t h q).0 (z ∙ ap (λ (i : ℕ). table i h q) p))
  | inr p ↦ inl (ap (λ (z : Space). z.exists) (sym (upd_other s.space c n d p)) ∙ e)
]
begins {s} (end c S j l g w) d e = elim (eq? d c) [
  | inl p ↦ inl (ap (exists s) p ∙ l)
  | inr p ↦ inl (ap (λ (z : Space). z.exists) (sym (upd_other s.space c (closed (s.space c)) d p)) ∙ e)
]
begins (dissolve c l w) d e = inl e

-- what is found stays as it is
pub record Stays (c : ℕ) (G : Ghost) (m m₁ : Machine) : Type 0 where
  pub side : Side c G m₁
  pub first : m₁.spaces.first ≡ m.spaces.first
  pub to : (v f r : ℕ) → Leads m.spaces c v f r → Leads m₁.spaces c v f r
  pub from : (v f r : ℕ) → Leads m₁.spaces c v f r → Leads m.spaces c v f r

pub step_stays : {c : ℕ} {G : Ghost} {m m₁ : Machine} (t : Step m m₁) → Aside t c → Side c G m → Stays c G m m₁
unfolding forget
step_stays {c} {G} {m} (moves s a) n S = record {
  side = record {
    good = step_good (moves s a) S.good;
    holds = move_holds (only c G) a S.holds;
    kept_in = S.kept_in;
    led_in = λ o v f r l. rw (first_same a) (go v f r ((beside a c n v f r).1 l) o);
  };
  first = first_same a;
  to = λ v f r. (beside a c n v f r).0;
  from = λ v f r. (beside a c n v f r).1;
}
  where
    go : (v f r : ℕ) → Leads m.spaces c v f r → Comes (with_spaces m s) c → G v (m.spaces.first + f) r
    go v f r l (inr k) = S.led_in (inr k) v f r l
    go v f r l (inl e) = elim (begins a c e) [ inl e' ↦ S.led_in (inl e') v f r l | inr none ↦ absurd (none l.1 l.0 _ l.2) ]
step_stays {c} {G} {m} (reports d P D p) n S = record {
  side = record {
    good = step_good (reports d P D p) S.good;
    holds = record {
      core = report_core m.spaces d P D p S.holds.core;
      kept =
          less_kept (reported m.spaces d D) c G (forget (only c G) d P) (report_kept m.spaces d P D p (only c G) S.holds.kept)
          (λ v x r g. ((refl, g), λ e. absurd (n e)));
    };
    kept_in = λ v x r a. S.kept_in v x r a.0;
    led_in = λ o v f r l. S.led_in (elim o [ inl e ↦ inl e | inr k ↦ let a = k.3 in inr (k.0, k.1, k.2, a.0) ]) v f r l;
  };
  first = refl;
  to = λ v f r l. l;
  from = λ v f r l. l;
}
step_stays {c} {G} {m} (looks k l) n S = record {
  side = record {
    good = step_good (looks k l) S.good;
    holds = S.holds;
    kept_in = λ v x r a. found_in S v x r (l.pages c v x r a);
    led_in = λ o v f r w. S.led_in (elim o [ inl e ↦ inl e | inr i ↦ comes m (l.tables c i.0 i.1 i.2 i.3) ]) v f r w;
  };
  first = refl;
  to = λ v f r l. l;
  from = λ v f r l. l;
}
step_stays {c} {G} {m} (stores d f o b l w) n S = record {
  side = record {
    good = step_good (stores d f o b l w) S.good;
    holds =
        let u = store_frame m S.good d f o l w in
        put_holds m.spaces f (o / 8) _ (belongs_untabled m.spaces d f u.0 u.1) (only c G) S.holds;
    kept_in = S.kept_in;
    led_in = λ e v a r i. S.led_in e v a r ((store_leads m S.good d f o b l w c v a r).1 i);
  };
  first = refl;
  to = λ v a r. (store_leads m S.good d f o b l w c v a r).0;
  from = λ v a r. (store_leads m S.good d f o b l w c v a r).1;
}

-- a move on the tables of c, which exists
pub grow_side : {c : ℕ} {G : Ghost} {m : Machine} (s : Spaces) (a : Move m.spaces s) → exists s c ≡ true → Side c G m →
    Side c (grow c s G) (with_spaces m s)
grow_side {c} {G} {m} s a live S = let h = move_holds (only c G) a S.holds in record {
  good = step_good (moves s a) S.good;
  holds = record { core = h.core; kept = grow_kept s c G h.core live h.kept };
  kept_in = λ v x r k. inl (S.kept_in v x r k);
  led_in = λ o v f r l. inr (f, refl, l);
}

-- a report for c: what the tables still lead to can be found again, unless the space is no longer and all of it is reported
abbrev Again : Spaces → (c : ℕ) (P : ℕ → Bool) → Type 0
Again s c P = (exists s c ≡ true) ⊎ (((v : ℕ) → P v ≡ true) → ⊥)

abbrev pub fade : (c : ℕ) (P : ℕ → Bool) → Spaces → Ghost → Ghost
fade c P s G v x r = G v x r × ((P v ≡ true → ⊥) ⊎ (Again s c P × ((f : ℕ) × (x ≡ s.first + f) × Leads s c v f r)))

pub fade_side : {c : ℕ} {G : Ghost} {m : Machine} (P D : ℕ → Bool) (p : Report m.spaces c P D) → Side c G m →
    Side c (fade c P m.spaces G) (record { spaces = reported m.spaces c D; caches = forget m.caches c P })
unfolding forget
fade_side {c} {G} {m} P D p S = record {
  good = step_good (reports c P D p) S.good;
  holds = record {
    core = report_core s c P D p S.holds.core;
    kept = record {
      table_ok = λ d h p x a. absurd a;
      page_ok = λ d v x r a. rw a.0 (ok v x r a.1);
      one = λ d v x r x' r' a b. S.holds.kept.one c v x r x' r' (refl, a.1.0) (refl, b.1.0);
      one_table = λ d h p x x' a b. absurd a;
      table_gone = λ d h p x a. absurd a;
      page_gone = λ d v x r a. rw a.0 (gone v x r a.1);
    };
  };
  kept_in = λ v x r a. (S.kept_in v x r a.0, inl (a.1 refl));
  led_in = λ o v f r l. elim o [
    | inl e ↦ (S.led_in (inl e) v f r l, inr (inl e, (f, refl, l)))
    | inr k ↦ let a = k.3 in (S.led_in (inr (k.0, k.1, k.2, a.0)) v f r l, inr (inr (λ all. a.1 refl (λ u e. all u)), (f, refl, l)))
  ];
}
  where
    s : Spaces
    s = m.spaces

    old : Kept (reported m.spaces c D) (forget (only c G) c P)
    old = report_kept m.spaces c P D p (only c G) S.holds.kept

    ok : (v x r : ℕ) → fade c P m.spaces G v x r → PageOk (reported m.spaces c D) c v x r
    ok v x r (a) = elim a.1 [
      | inl n ↦ old.page_ok c v x r ((refl, a.0), λ e. n)
      | inr w ↦ let i = w.1 in (i.0, i.1, inl i.2)
    ]

    gone : (v x r : ℕ) → fade c P m.spaces G v x r → Gone (reported m.spaces c D) c
    gone v x r a = elim a.1 [
      | inl n ↦ old.page_gone c v x r ((refl, a.0), λ e. n)
      | inr w ↦ λ l. elim w.0 [
        | inl e ↦ absurd (true≢false (sym e ∙ l))
        | inr n ↦
            let j = S.holds.kept.page_gone c v x r (refl, a.0) l in
            let st : c ≡ c → D j.0 ≡ false = elim (stays? m.spaces c P D p c j.0) [
              | inl z ↦ absurd
                  (n (λ u. p.covered j.0 u z.1 (j.1 u)))
              | inr z ↦ z
            ] in
            (j.0, λ u. stale_stays m.spaces c P D p c j.0 u (j.1 u) st)
      ]
    ]
