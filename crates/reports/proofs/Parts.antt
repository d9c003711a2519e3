-- The columns of a stretch, and the rows of a table of ages, hold each moment once.
use Rattle.std.proofs.Common.{◌≡◌, ℕ, zero, suc, ◌+◌, ◌-◌, ◌*◌, ◌/◌, ◌^◌, ◌<◌, ◌≤◌, min, max, Bool, true, ◌&&◌, eqb, ltb, leb, None, sym, ap, ◌∙◌, subst, inl, inr, mul-le-mul_right, mul_comm, div-lt_iff_lt-mul, add-mul, pow-suc, div-mul-le_self, arith, pow_pos, pow_mono}
use native.Mathlib.Nat.{lt-div-mul-add}
use Rattle.std.proofs.lemmas.Bool.{cases_Bool, cases_lt, cases_order, cond-true, cond-false, lt-ltb, le-ltb, le-leb, lt-leb, leb-true, ltb-true, eqb-true, eq-eqb, ne_eqb, and_left, and_from, and_parts}
use Rattle.std.proofs.lemmas.Bool.Decides.{nat_tests}
use Rattle.std.proofs.lemmas.Grind.{div_ceil_times}
use Rattle.std.specs.Int.{div_ceil}
use Rattle.reports.specs.Stretches.{column_width, column_from, ages_of, holds, ColumnsHoldEachOnce, RowsHoldEachOnce}

-- A column holds what begins at its start and comes before the next column's.
column_holds : (start width last t : ℕ) → 0 < width → t ≤ last → holds (column_from start width last) t ≡ (leb start t && ltb t (start + width))
column_holds start width last t pos h = elim (cases_lt last start) [
  | inl behind ↦
      ap (λ o. holds o t) (cond-true (ltb last start) None _ (lt-ltb last start behind))
      ∙ sym (and_left (leb start t) _ (lt-leb start t (omega arith)))
  | inr within ↦
      ap (λ o. holds o t) (cond-false (ltb last start) None _ (le-ltb last start within))
      ∙ ap (λ (b : Bool). leb start t && b) (elim (cases_lt t (start + width)) [
        | inl below ↦ le-leb t (min last (start + width - 1)) (omega arith) ∙ sym (lt-ltb t (start + width) below)
        | inr above ↦ lt-leb t (min last (start + width - 1)) (omega arith) ∙ sym (le-ltb t (start + width) above)
      ])
]

-- Steps of equal width hold each number once.
step_holds : (first width x i j t : ℕ) → t ≡ first + x → i * width ≤ x → x < i * width + width → (leb (first + j * width) t && ltb t (first + j * width + width)) ≡ eqb j i
step_holds first width x i j t e low high = elim (cases_order j i) [
  | inl same ↦ let z : j * width ≡ i * width = ap (λ (n : ℕ). n * width) same in grind (arith, nat_tests)
  | inr apart ↦ elim apart [
    | inl below ↦
        let z : (j + 1) * width ≤ i * width = mul-le-mul_right width (omega arith) in
        let a : (j + 1) * width ≡ j * width + 1 * width = add-mul j 1 width in grind (arith, nat_tests)
    | inr above ↦
        let z : (i + 1) * width ≤ j * width = mul-le-mul_right width (omega arith) in
        let a : (i + 1) * width ≡ i * width + 1 * width = add-mul i 1 width in grind (arith, nat_tests)
  ]
]

rounded_division_is_positive : (n c : ℕ) → 0 < n → 0 < c → 0 < div_ceil n c
rounded_division_is_positive n c h pos = elim (cases_lt 0 (div_ceil n c)) [
  | inl more ↦ more
  | inr none ↦
      let z : div_ceil n c * c ≡ 0 * c = ap (λ (x : ℕ). x * c) (omega arith) in
      absurd (omega (arith, (div_ceil_times n c pos).0))
]

-- Columns of a width that suffices hold each moment once.
columns_of_width : (width columns first last t : ℕ) → 0 < width → last + 1 - first ≤ columns * width → first ≤ t → t ≤ last
    → (i : ℕ) × (i < columns) × ((j : ℕ) → holds (column_from (first + j * width) width last) t ≡ eqb j i)
columns_of_width width columns first last t pos enough from to =
    let x : ℕ = t - first in
    let e : t ≡ first + x = omega arith in
    let below : x < columns * width = omega arith in (
      x / width,
      (div-lt_iff_lt-mul {k = width} {x = x} {y = columns} pos).1 below,
      λ j. column_holds (first + j * width) width last t pos to
          ∙ step_holds first width x (x / width) j t e (div-mul-le_self x width) (lt-div-mul-add {a = x} {b = width} pos),
    )

pub columns_hold_each_once : ColumnsHoldEachOnce
columns_hold_each_once columns first last t pos from to =
    let n : ℕ = last + 1 - first in
    let same : max columns 1 ≡ columns = omega arith in
    let enough : n ≤ max columns 1 * column_width columns first last = rw mul_comm (div_ceil_times n (max columns 1) (omega arith)).0 in
    let order : n ≤ columns * column_width columns first last = subst (λ (c : ℕ). n ≤ c * column_width columns first last) same enough in
    columns_of_width (column_width columns first last) columns first last t (rounded_division_is_positive n (max columns 1) (omega arith) (omega arith))
    order from to

-- Whether an age stands in a row.
abbrev in_row : (row age : ℕ) → Bool
in_row zero age = eqb age 0
in_row (suc row) age = leb (2 ^ row) age && ltb age (2 * 2 ^ row)

row_holds : (row m t : ℕ) → t ≤ m → holds (ages_of row m) t ≡ in_row row (m - t)
row_holds zero m t h = grind (arith, nat_tests)
row_holds (suc row) m t h =
    let pos : 0 < 2 ^ row = pow_pos row in
    elim (cases_lt m (2 ^ row)) [
      | inl young ↦
          ap (λ o. holds o t) (cond-true (ltb m (2 ^ row)) None _ (lt-ltb m (2 ^ row) young))
          ∙ sym (and_left (leb (2 ^ row) (m - t)) _ (lt-leb (2 ^ row) (m - t) (omega arith)))
      | inr old ↦
          ap (λ o. holds o t) (cond-false (ltb m (2 ^ row)) None _ (le-ltb m (2 ^ row) old))
          ∙ grind (arith, nat_tests)
    ]

-- The row of an age.
row_of_age : (k age : ℕ) → age < 2 ^ k → (row : ℕ) × (row ≤ k) × (in_row row age ≡ true)
row_of_age zero age h = (0, omega arith, eq-eqb age 0 (omega arith))
row_of_age (suc k) age h = elim (cases_lt age (2 ^ k)) [
  | inl below ↦ let r = row_of_age k age below in (r.0, omega (arith, r.1), r.2)
  | inr from ↦
      let p : 2 ^ suc k ≡ 2 ^ k * 2 = pow-suc 2 k in
      (suc k, omega arith, and_from (leb (2 ^ k) age) _ (le-leb (2 ^ k) age from) (lt-ltb age (2 * 2 ^ k) (omega arith)))
]

-- What a row that holds an age says of it.
row_bounds : (row age : ℕ) → in_row (suc row) age ≡ true → (2 ^ row ≤ age) × (age < 2 * 2 ^ row)
row_bounds row age e =
    let p = and_parts (leb (2 ^ row) age) (ltb age (2 * 2 ^ row)) e in
    (leb-true (2 ^ row) age p.0, ltb-true age (2 * 2 ^ row) p.1)

-- An age above one row's is in no row below it.
rows_apart : (low high age : ℕ) → low < high → in_row low age ≡ true → in_row high age ≡ true → ⊥
rows_apart low zero age h p q = omega arith
rows_apart zero (suc high) age h p q = omega (arith, eqb-true age 0 p, (row_bounds high age q).0, pow_pos high)
rows_apart (suc low) (suc high) age h p q =
    let twice : 2 ^ suc low ≤ 2 ^ high = pow_mono {i = suc low} {j = high} (omega arith) in
    omega (arith, pow-suc 2 low, (row_bounds low age p).1, (row_bounds high age q).0)

one_row : (row other age : ℕ) → in_row row age ≡ true → in_row other age ≡ eqb other row
one_row row other age e = elim (cases_order other row) [
  | inl same ↦ ap (λ (r : ℕ). in_row r age) same ∙ e ∙ sym (eq-eqb other row same)
  | inr apart ↦ elim (cases_Bool (in_row other age)) [
    | inl holds_too ↦ absurd (elim apart [ inl below ↦ rows_apart other row age below holds_too e | inr above ↦ rows_apart row other age above e holds_too ])
    | inr not_held ↦ not_held ∙ sym (ne_eqb other row (λ s. elim apart [ inl below ↦ omega arith | inr above ↦ omega arith ]))
  ]
]

pub rows_hold_each_once : RowsHoldEachOnce
rows_hold_each_once m t limit to =
    let r = row_of_age 20 (m - t) (omega arith) in
    (r.0, omega (arith, r.1), λ j. row_holds j m t to ∙ one_row r.0 j (m - t) r.2)
