-- Two classes of elements in one list: those that float, in front, and the others.
use Rattle.std.specs.Prelude.{ℕ, Bool, true, false, List, length}
use Rattle.std.specs.List.{insert, prefix_len}

module _ {T : Type 0} (floats : T → Bool) where
  -- where the front of a class is: what floats goes in front of all, and what does not behind those that float in front
  abbrev pub front_place : Bool → List T → ℕ
  front_place true xs = 0
  front_place false xs = prefix_len floats xs

  -- where its back is: what floats goes behind those that float in front, and what does not behind all
  abbrev pub back_place : Bool → List T → ℕ
  back_place true xs = prefix_len floats xs
  back_place false xs = length xs

  -- the list, and this element at the front of its class
  abbrev pub put_front : T → List T → List T
  put_front x xs = insert xs (front_place (floats x) xs) x

  -- the list, and this element at the back of its class
  abbrev pub put_back : T → List T → List T
  put_back x xs = insert xs (back_place (floats x) xs) x
