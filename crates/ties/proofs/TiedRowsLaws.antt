-- Laws of all rows with j put as k or as 1 − k: which row is which, the limits, and the points that have the tie.
use Prim.Native.Nat.{◌*◌, ◌+◌, ◌-◌, ◌<◌, ◌≤◌, suc, zero, ℕ}
use lib.Dec.{T}
use lib.IntN.{pos, ℤ}
use lib.ListN.{length, length-replicate, length-set, replicate, set}
use lib.Seq.{set-get_or}
use mathlib.Core.List.{List}
use mathlib.Core.Logic.{◌↔◌, ◌≢◌}
use mathlib.Core.Path.{◌∙◌, ◌≡◌, ap, refl, subst, sym}
use native.Mathlib.Decide.{ℕ_discrete}
use native.Mathlib.Numerals.{add-one}
use native.Mathlib.Omega.{arith}
use Rattle.integer.proofs.IndexLaws.{all-at}
use Rattle.model.specs.Box.{at}
use Rattle.model.specs.Point.{MeetsOver}
use Rattle.model.specs.Rows.{Row, Rows, row_at, row_of, rows_of, set_row, splice}
use Rattle.model.specs.State.{State, with_row}
use Rattle.model.specs.Valid.{ValidModel}
use Rattle.model.proofs.RowsLaws.{length-row_of, set_row-length, set_row-other, set_row-row}
use Rattle.call_laws.specs.Points.{FractionalPointOf}
use Rattle.call_laws.proofs.RowChange.{row-valid, with_row-valid}
use Rattle.ties.specs.TiedRow.{row_fits, rows_fit, tie_coefs_to, tie_rhs_to, tie_rows_to, tie_to, tied_coef, tied_coefs, tied_rhs, tied_row}
use Rattle.ties.specs.Ties.{linked}
use Rattle.ties.proofs.TiedRowLaws.{tied-row, tied-valid}

-- ---- rows of the right lengths

module _ (n m : ℕ) (A : Rows) (k j w : ℕ) (coefs_len : length A.coefs ≡ m * n) (rhs_len : length A.rhs ≡ m) (kinds_len : length A.kinds ≡ m) where
  -- the rows of which those below i are done, and the new row i
  abbrev to : ℕ → Rows
  to i = tie_rows_to i n k j w A

  abbrev new : ℕ → Row
  new i = tied_row k j w (row_at n A i)

  new-length : (i : ℕ) → i < m → length (new i).coefs ≡ n
  unfolding tied_coefs
  new-length i h =
      let C = row_of n A.coefs i in
      let a = tied_coef w (at C k) (at C j) in length-set (set C k a) j (pos 0) ∙ length-set C k a ∙ length-row_of n m A.coefs i coefs_len h

  -- one row more: its kind is set to what it is
  pub tie_rows-more : (i : ℕ) → to (suc i) ≡ set_row n (to i) i (new i)
  unfolding tie_rows_to tie_coefs_to tie_rhs_to set_row
  tie_rows-more i = rw (set-get_or A.kinds i 0)

  pub tie_rows-lengths : (i : ℕ) → i ≤ m → (length (to i).coefs ≡ m * n) × (length (to i).rhs ≡ m) × (length (to i).kinds ≡ m)
  unfolding tie_rows_to tie_coefs_to tie_rhs_to
  tie_rows-lengths zero h = (coefs_len, rhs_len, kinds_len)
  tie_rows-lengths (suc i) h =
      let l = tie_rows-lengths i (omega arith) in (
        ap (λ (Z : Rows). length Z.coefs) (tie_rows-more i) ∙ set_row-length n m (to i) i (new i) l.0 l.1 l.2 h (new-length i h),
        length-set (to i).rhs i (new i).rhs ∙ l.1,
        kinds_len,
      )

  -- the rows when row i is put so too
  put-row : (i : ℕ) → i < m → row_at n (to (suc i)) i ≡ new i
  put-row i h =
      let l = tie_rows-lengths i (omega arith) in
      subst (λ (Z : Rows). row_at n Z i ≡ new i) (sym (tie_rows-more i)) (set_row-row n m (to i) i (new i) l.0 l.1 l.2 h (new-length i h))

  put_other : (i r : ℕ) → i < m → r < m → r ≢ i → row_at n (to (suc i)) r ≡ row_at n (to i) r
  put_other i r h g ne =
      let l = tie_rows-lengths i (omega arith) in
      subst (λ (Z : Rows). row_at n Z r ≡ row_at n (to i) r) (sym (tie_rows-more i))
      (set_row-other n m (to i) i (new i) l.0 l.1 l.2 h (new-length i h) r g ne)

  none-put : (r : ℕ) → row_at n (to 0) r ≡ row_at n A r
  unfolding tie_rows_to tie_coefs_to tie_rhs_to
  none-put r = refl

  -- a row that is not yet done, and one that is
  pub tie_rows-later : (i r : ℕ) → i ≤ r → r < m → row_at n (to i) r ≡ row_at n A r
  tie_rows-later zero r h l = none-put r
  tie_rows-later (suc i) r h l = put_other i r (omega arith) l (λ e. omega arith) ∙ tie_rows-later i r (omega arith) l

  pub tie_rows-done : (i r : ℕ) → r < i → i ≤ m → row_at n (to i) r ≡ new r
  tie_rows-done zero r h l = absurd (let z : ⊥ = omega arith in z)
  tie_rows-done (suc i) r h l = go (ℕ_discrete r i) (λ (p : r < i). tie_rows-done i r p (omega arith))
    where
      go : Dec (r ≡ i) → (r < i → row_at n (to i) r ≡ new r) → row_at n (to (suc i)) r ≡ new r
      go (yes e) o = subst (λ (q : ℕ). row_at n (to (suc i)) q ≡ new q) (sym e) (put-row i (omega arith))
      go (no e) o = put_other i r (omega arith) (omega arith) e ∙ o (omega arith)

-- ---- one row more, as a loop makes it: from the rows as they stand, of which row i is still the old one

module _ (n m : ℕ) (C R : List ℤ) (k j w : ℕ) (coefs_len : length C ≡ m * n) (rhs_len : length R ≡ m) (i : ℕ) (h : i < m) where
  -- kinds do not matter
  row-still : row_at n (tie_rows_to i n k j w (rows_of C R (replicate m 0))) i ≡ row_at n (rows_of C R (replicate m 0)) i
  row-still = tie_rows-later n m (rows_of C R (replicate m 0)) k j w coefs_len rhs_len (length-replicate m 0) i i (omega arith) h

  pub coefs-still : row_of n (tie_coefs_to i n k j w C) i ≡ row_of n C i
  unfolding tie_rows_to
  coefs-still = ap (λ (r : Row). r.coefs) row-still

  pub rhs-still : at (tie_rhs_to i n j w C R) i ≡ at R i
  unfolding tie_rows_to
  rhs-still = ap (λ (r : Row). r.rhs) row-still

  pub tie_coefs-next : tie_coefs_to (i + 1) n k j w C ≡ splice (tie_coefs_to i n k j w C) (tied_coefs k j w (row_of n (tie_coefs_to i n k j w C) i)) (i * n)
  unfolding tie_coefs_to
  tie_coefs-next = rw (coefs-still, add-one) refl

  pub tie_rhs-next : tie_rhs_to (i + 1) n j w C R
      ≡ set (tie_rhs_to i n j w C R) i (tied_rhs j w (row_of n (tie_coefs_to i n k j w C) i) (at (tie_rhs_to i n j w C R) i))
  unfolding tie_rhs_to
  tie_rhs-next = rw (coefs-still, rhs-still, add-one) refl

-- ---- rows of a valid model

-- row i of s
abbrev pub row : State → ℕ → Row
row s i = row_at s.model.n s.model.rows i

module _ (s : State) (k j w : ℕ) (v : ValidModel s.model) (fit : T (rows_fit k j w s.model)) where
  row_fits_lem : (i : ℕ) → i < s.model.m → T (row_fits k j w (row s i).coefs (row s i).rhs)
  unfolding rows_fit
  row_fits_lem i h = all-at s.model.m (λ i. row_fits k j w (row s i).coefs (row s i).rhs) fit i h

  tie_to-more : (i : ℕ) → tie_to (suc i) k j w s ≡ with_row (tie_to i k j w s) i (tied_row k j w (row s i))
  unfolding tie_to with_row
  tie_to-more i = rw (tie_rows-more s.model.n s.model.m s.model.rows k j w v.coefs_len v.rhs_len v.kinds_len i)

  -- the limits are kept
  pub tie_to-valid : (i : ℕ) → i ≤ s.model.m → ValidModel (tie_to i k j w s).model
  unfolding tie_to tie_rows_to tie_coefs_to tie_rhs_to
  tie_to-valid zero h = v
  tie_to-valid (suc i) h =
      subst (λ (z : State). ValidModel z.model) (sym (tie_to-more i))
      (with_row-valid (tie_to i k j w s) i (tied_row k j w (row s i)) (tie_to-valid i (omega arith)) h
      (tied-valid k j w (row-valid s.model i v h) (row_fits_lem i h)) (v.kinds i))

  pub tied-done : (r : ℕ) → r < s.model.m → row (tie_to s.model.m k j w s) r ≡ tied_row k j w (row s r)
  unfolding tie_to
  tied-done r h = tie_rows-done s.model.n s.model.m s.model.rows k j w v.coefs_len v.rhs_len v.kinds_len s.model.m r h (omega arith)

-- ---- the points with the tie

-- what holds of each new row holds of each row, and back
module _ (s : State) (k j w : ℕ) (v : ValidModel s.model) (fit : T (rows_fit k j w s.model))
    (kn : k < s.model.n) (jn : j < s.model.n) (ne : j ≢ k) (w2 : w < 2) where
  abbrev end : State
  end = tie_to s.model.m k j w s

  row-over : (x : List ℤ) (d : ℕ) → at x j ≡ linked k (1 - w) x d → (i : ℕ) → i < s.model.m
      → MeetsOver s.model.n (row end i) x d ↔ MeetsOver s.model.n (row s i) x d
  row-over x d e i h =
      let r = row s i in
      subst (λ (z : Row). MeetsOver s.model.n z x d ↔ MeetsOver s.model.n r x d)
      (sym (tied-done s k j w v fit i h))
      (tied-row s.model.n r.coefs r.rhs k j kn jn ne (length-row_of s.model.n s.model.m s.model.rows.coefs i v.coefs_len h)
      r.kind w w2 x d e)

  pub rows-points : (x : List ℤ) (d : ℕ) → at x j ≡ linked k (1 - w) x d → FractionalPointOf end x d ↔ FractionalPointOf s x d
  unfolding tie_to
  rows-points x d e = (
    (λ p. record { len = p.len; positive = p.positive; inside = p.inside; rows = λ i h. (row-over x d e i h).0 (p.rows i h) }),
    (λ p. record { len = p.len; positive = p.positive; inside = p.inside; rows = λ i h. (row-over x d e i h).1 (p.rows i h) }),
  )
