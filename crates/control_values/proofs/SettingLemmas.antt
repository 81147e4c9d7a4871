-- The value of a setting lies between its bounds, and setting it again changes nothing.
use Rattle.std.proofs.Common.{◌≡◌, ℤ, ◌≤ℤ◌, ap, arith}
use Rattle.std.proofs.lemmas.Int.{ints, clamps}
use Rattle.control_values.specs.Settings.{nearest, settled, IsSettled}

pub settled_lies_within : (low high z : ℤ) → low ≤ℤ high → IsSettled (settled low high z)
settled_lies_within low high z l = record { above = grind (arith, ints, clamps); below = grind (arith, ints, clamps) }

pub within_stays : (low high z : ℤ) → low ≤ℤ z → z ≤ℤ high → nearest low high z ≡ z
within_stays low high z l m = grind (arith, ints, clamps)

nearest_once : (low high z : ℤ) → nearest low high (nearest low high z) ≡ nearest low high z
nearest_once low high z = grind (arith, ints, clamps)

pub settled_once : (low high z : ℤ) → settled low high (nearest low high z) ≡ settled low high z
settled_once low high z = ap (λ v. record { minimum = low; maximum = high; value = v }) (nearest_once low high z)

pub order_stays : (low high y z : ℤ) → y ≤ℤ z → nearest low high y ≤ℤ nearest low high z
order_stays low high y z l = grind (arith, ints, clamps)
