-- Whole numbers by how far they go up and down: z is up z - down z. Order, sums and differences of whole numbers are read as
-- orders and equations of ℕ, which linear arithmetic proves. Assumes nothing.
use Rattle.list_laws.proofs.Kit.{◌≡◌, ap, refl, Bool, cond, false, true, ◌+◌, ◌-◌, ◌<◌, ◌≤◌, suc, zero, ℕ, arith, leb→le, le→leb, ltb, ltb→lt, lt→ltb, ◌+ℤ◌}
use Rattle.list_laws.proofs.Kit.{negsuc, pos, pred_ℤ, sub_ℕ, ℤ, ltb-false, ltb-true, ◌<ℤ◌, ◌≤ℤ◌, le_z_yes, lt_z_yes}
use Rattle.model.specs.Overlap.{up, down}

-- whole numbers that go as far are equal
pub whole_eq : (y z : ℤ) → up y + down z ≡ up z + down y → y ≡ z
whole_eq (pos a) (pos b) e = ap pos (omega arith)
whole_eq (pos a) (negsuc b) e = absurd (omega arith)
whole_eq (negsuc a) (pos b) e = absurd (omega arith)
whole_eq (negsuc a) (negsuc b) e = ap negsuc (omega arith)

-- the difference by the test on which it is defined
sub_test : (m n : ℕ) (b : Bool) → ltb m n ≡ b
    → down (cond b (negsuc (n - suc m)) (pos (m - n))) + m ≡ up (cond b (negsuc (n - suc m)) (pos (m - n))) + n
sub_test m n true e = let h = ltb-true m n e in omega arith
sub_test m n false e = let h = ltb-false m n e in omega arith

-- the difference of m and n goes as far up from n as m
pub sub_whole : (m n : ℕ) → down (sub_ℕ m n) + m ≡ up (sub_ℕ m n) + n
sub_whole m n = sub_test m n (ltb m n) refl

-- the difference goes down only where n is larger, and up only where m is
down_test : (m n : ℕ) (b : Bool) → ltb m n ≡ b → n ≤ m → down (cond b (negsuc (n - suc m)) (pos (m - n))) ≡ 0
down_test m n true e l = let h = ltb-true m n e in absurd (omega arith)
down_test m n false e l = refl

up_test : (m n : ℕ) (b : Bool) → ltb m n ≡ b → m ≤ n → up (cond b (negsuc (n - suc m)) (pos (m - n))) ≡ 0
up_test m n true e l = refl
up_test m n false e l = let h = ltb-false m n e in omega arith

pub sub_up : (m n : ℕ) → n ≤ m → down (sub_ℕ m n) ≡ 0
sub_up m n l = down_test m n (ltb m n) refl l

pub sub_down : (m n : ℕ) → m ≤ n → up (sub_ℕ m n) ≡ 0
sub_down m n l = up_test m n (ltb m n) refl l

-- a whole number is the difference of how far it goes up and down
pub up_down : (z : ℤ) → sub_ℕ (up z) (down z) ≡ z
up_down z = whole_eq _ _ (omega (arith, sub_whole (up z) (down z)))

-- the number before a whole number
pub pred_whole : (z : ℤ) → up (pred_ℤ z) + down z + 1 ≡ up z + down (pred_ℤ z)
pred_whole (pos zero) = omega arith
pred_whole (pos (suc n)) = omega arith
pred_whole (negsuc n) = omega arith

-- a whole number and n more
pub add_whole : (z : ℤ) (n : ℕ) → up (z +ℤ pos n) + down z ≡ up z + n + down (z +ℤ pos n)
add_whole (pos a) n = omega arith
add_whole (negsuc a) n = omega (arith, sub_whole n (suc a))

-- the sum of two whole numbers
pub add_signed : (y z : ℤ) → up (y +ℤ z) + down y + down z ≡ up y + up z + down (y +ℤ z)
add_signed (pos a) (pos b) = omega arith
add_signed (pos a) (negsuc b) = omega (arith, sub_whole a (suc b))
add_signed (negsuc a) (pos b) = omega (arith, sub_whole b (suc a))
add_signed (negsuc a) (negsuc b) = omega arith

-- the order as one of ℕ
pub le_whole : (y z : ℤ) → y ≤ℤ z → up y + down z ≤ up z + down y
le_whole (pos a) (pos b) h = omega (arith, leb→le a b h.le)
le_whole (pos a) (negsuc b) h = absurd h.le
le_whole (negsuc a) (pos b) h = omega arith
le_whole (negsuc a) (negsuc b) h = omega (arith, leb→le b a h.le)

-- from an order of ℕ
pub whole_le : (y z : ℤ) → up y + down z ≤ up z + down y → y ≤ℤ z
whole_le (pos a) (pos b) h = le_z_yes (le→leb a b (omega arith))
whole_le (pos a) (negsuc b) h = absurd (omega arith)
whole_le (negsuc a) (pos b) h = le_z_yes tt
whole_le (negsuc a) (negsuc b) h = le_z_yes (le→leb b a (omega arith))

-- the strict order as one of ℕ
pub lt_whole : (y z : ℤ) → y <ℤ z → up y + down z < up z + down y
lt_whole (pos a) (pos b) h = omega (arith, ltb→lt a b h.lt)
lt_whole (pos a) (negsuc b) h = absurd h.lt
lt_whole (negsuc a) (pos b) h = omega arith
lt_whole (negsuc a) (negsuc b) h = omega (arith, ltb→lt b a h.lt)

-- from a strict order of ℕ
pub whole_lt : (y z : ℤ) → up y + down z < up z + down y → y <ℤ z
whole_lt (pos a) (pos b) h = lt_z_yes (lt→ltb a b (omega arith))
whole_lt (pos a) (negsuc b) h = absurd (omega arith)
whole_lt (negsuc a) (pos b) h = lt_z_yes tt
whole_lt (negsuc a) (negsuc b) h = lt_z_yes (lt→ltb b a (omega arith))
