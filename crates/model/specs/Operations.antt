-- Document 03, sections 2 and 3: the nine operations and set_up, each as its refusals in the order of its line and then the state after.
-- A refusal carries its number and no state, so that it changes nothing. Arguments are any numbers.
-- Decided here: a test that is false answers the number beside it; 3 compares the NUMBER of free frames with the number needed.
use Rattle.std.specs.Prelude.{Bool, true, false, not, ◌&&◌, ◌||◌, cond, ℕ, ◌/◌, ◌%◌, eqb, ltb, leb}
use Rattle.memory.specs.Ram.{frame_bytes, address_end, ram_fits}
use Rattle.model.specs.Base.{upd, upd2, all}
use Rattle.model.specs.State.{WRITE, EXECUTE, NOTHING, READING, WRITING, State, KindOfFrame, monitor, free, page, draining_page, is_guest, is_free, is_page, is_page_of, total, free_frames}
use Rattle.model.specs.Translate.{mapped, missing}
use Rattle.model.specs.Changes.{zeros, becomes, with_root, with_mapping, without_mapping, without_guest, clean}

pub data Out : Type 0 where
  refuse : ℕ → Out
  done : State → Out

-- what the operation answers
abbrev pub refusal : Out → ℕ
refusal (refuse k) = k
refusal (done s) = 0

unfoldable pub check : Bool → ℕ → Out → Out
check true k o = o
check false k o = refuse k

-- 7: "guest-physical address not a multiple of 4,096, or 2^48 or more"
abbrev pub page_address : ℕ → Bool
page_address a = eqb (a % frame_bytes) 0 && ltb a address_end

-- 8: "rights not 1, 3, 5 or 7 (1 read, 2 write, 4 execute, added up)"
abbrev pub is_rights : ℕ → Bool
is_rights r = eqb r 1 || eqb r 3 || eqb r 5 || eqb r 7

-- 9, of another guest's page: no executing; reading is shared; writing only where that is shared too
unfoldable pub shares : (how r : ℕ) → Bool
shares how r = ltb NOTHING how && ltb r EXECUTE && (ltb r WRITE || leb WRITING how)

-- 9, of map: "f isn't a page; or it is another guest's page and r contains execute, or reading isn't shared with g, or r contains write
-- and writing isn't shared with g"
unfoldable pub may_map : State → (f g r : ℕ) → Bool
may_map s f g r = is_page_of (s.kind f) g || (is_page (s.kind f) && shares (s.shared f g) r)

-- "create g | 1, 2, 3 | a free frame becomes g's root table, all zero"
unfoldable pub create : State → (g : ℕ) (pick : ℕ → ℕ) → Out
create s g pick =
    check (is_guest g) 1 (
    check (not (s.exists g) && not (s.dirty g)) 2 (
    check (leb 1 (free_frames s)) 3 (
    done (with_root s g (pick 0)))))

-- "give f to g | 5, 4, 6 | f becomes a page of g, shared with nobody, all zero"
unfoldable pub give : State → (f g : ℕ) → Out
give s f g =
    check (s.exists g) 5 (
    check (ltb f s.size) 4 (
    check (is_free (s.kind f)) 6 (
    done (becomes s f (page g) (upd s.word f zeros) (upd s.shared f zeros)))))

-- "map f into g at a, rights r | 5, 14, 7, 8, 4, 9, 10, 3 | a translates to f with rights r; f's count grows by 1"
unfoldable pub map : State → (f g a r : ℕ) (pick : ℕ → ℕ) → Out
map s f g a r pick =
    check (s.exists g) 5 (
    check (not (s.dirty g)) 14 (
    check (page_address a) 7 (
    check (is_rights r) 8 (
    check (ltb f s.size) 4 (
    check (may_map s f g r) 9 (
    check (not (mapped s g (a / 4096))) 10 (
    check (leb (missing s g (a / 4096)) (free_frames s)) 3 (
    done (with_mapping s f g (a / 4096) r pick)))))))))

-- "unmap a from g | 5, 7, 11 | a no longer translates; the count falls by 1; g becomes dirty"
unfoldable pub unmap : State → (a g : ℕ) → Out
unmap s a g =
    check (s.exists g) 5 (
    check (page_address a) 7 (
    check (mapped s g (a / 4096)) 11 (
    done (without_mapping s g (a / 4096)))))

-- "share, refusals 13 and 14 apply only where h may write f now and w = 0"
abbrev pub narrows : State → (f h w : ℕ) → Bool
narrows s f h w = leb WRITING (s.shared f h) && eqb w 0

-- "share g's f with h, writing w | 5, 12, 4, 9, 13, 14 | h may map f for reading, and for writing too unless w = 0"
unfoldable pub share : State → (g f h w : ℕ) → Out
share s g f h w =
    check (s.exists g && s.exists h) 5 (
    check (not (eqb g h)) 12 (
    check (ltb f s.size) 4 (
    check (is_page_of (s.kind f) g) 9 (
    check (not (narrows s f h w) || eqb (s.count f h) 0) 13 (
    check (not (narrows s f h w) || not (s.dirty h)) 14 (
    done (becomes s f (page g) s.word (upd2 s.shared f h (cond (eqb w 0) READING WRITING)))))))))

-- "unshare g's f from h | 5, 4, 9, 13, 14 | h may no longer map f". 9: "f isn't a page of g or isn't shared with h. 13: h has f mapped.
-- 14: h is dirty."
unfoldable pub unshare : State → (g f h : ℕ) → Out
unshare s g f h =
    check (s.exists g && s.exists h) 5 (
    check (ltb f s.size) 4 (
    check (is_page_of (s.kind f) g && ltb NOTHING (s.shared f h)) 9 (
    check (eqb (s.count f h) 0) 13 (
    check (not (s.dirty h)) 14 (
    done (becomes s f (page g) s.word (upd2 s.shared f h NOTHING)))))))

-- "take f from g | 5, 4, 9, 13 | if g is dirty, f drains for g; otherwise f is free". 13: "f is mapped anywhere, or shared with anybody."
unfoldable pub take : State → (f g : ℕ) → Out
take s f g =
    check (s.exists g) 5 (
    check (ltb f s.size) 4 (
    check (is_page_of (s.kind f) g) 9 (
    check (eqb (total (s.count f)) 0 && eqb (total (s.shared f)) 0) 13 (
    done (becomes s f (cond (s.dirty g) (draining_page g) free) s.word s.shared)))))

-- destroy, 13: f isn't "a page of g [..] shared with somebody", nor "somebody's page [..] shared with g"
unfoldable pub unshared : State → (f g : ℕ) → Bool
unshared s f g = not (is_page (s.kind f)) || (eqb (s.shared f g) 0 && (not (is_page_of (s.kind f) g) || eqb (total (s.shared f)) 0))

-- "destroy g | 5, 13 | g no longer exists and is dirty; its tables and pages drain for g"
unfoldable pub destroy : State → (g : ℕ) → Out
destroy s g =
    check (s.exists g) 5 (
    check (all s.size (λ f. unshared s f g)) 13 (
    done (without_guest s g)))

-- "invalidated g | 1 | g isn't dirty any more; what drains for g is free"
unfoldable pub invalidated : State → (g : ℕ) → Out
invalidated s g =
    check (is_guest g) 1 (
    done (clean s g))

-- set-up: "the first k frames, 0 <= k < n" are the monitor's
unfoldable pub at_first : (n k f : ℕ) → KindOfFrame
at_first n k f = cond (ltb f k || leb n f) monitor free

unfoldable pub started : (b n k : ℕ) (word : ℕ → ℕ → ℕ) → State
started b n k w = record {
  size = n;
  first = b / frame_bytes;
  kind = at_first n k;
  shared = λ f h. 0;
  count = λ f h. 0;
  exists = λ g. false;
  root = λ g. 0;
  dirty = λ g. false;
  word = w;
}

-- "Set-up with n, b, k or a slice that don't fit is refused with 4 and changes nothing." fits: the slices have the lengths that n asks for
unfoldable pub set_up : (fits : Bool) (b n k : ℕ) (word : ℕ → ℕ → ℕ) → Out
set_up fits b n k w =
    check (fits && ram_fits b n && ltb k n) 4 (
    done (started b n k w))
