use Rattle.std.proofs.Common.{rules, ◌≡◌, ◌≤ℤ◌, ◌+ℤ◌, pos, nat_abs, FitsSigned, SFits, w32, false, true, ◌∙◌, sym}
use Rattle.std.proofs.lemmas.Int.{to_z-of_z}
use Rattle.text_record.specs.Placings.{is_placing}
use Rattle.text_mgr.proofs.PlaceParts.{below_zero, fits_small, from_test, none_stands, placed, too_wide}
use Rattle.text_mgr.proofs.judging.placing_of.Goals.{then-place-lt0-via-then-place-lt0, then-place-lt0-via-else-place-lt0+then-place-gt65535}
use Rattle.text_mgr.proofs.judging.placing_of.Goals as goal

pub returns-then-place-lt0 : goal.returns-then-place-lt0
returns-then-place-lt0 c =
    let width : SFits w32 c.args.place.width = search rules in
    elim c.then-place-lt0.branch [
      | then-place-lt0-via-then-place-lt0 w ↦
          none_stands c.args.framed c.args.place (λ small. below_zero c.args.place.width (simp to_z-of_z at w.if-place-lt0.true) small.width_from)
      | then-place-lt0-via-else-place-lt0+then-place-gt65535 w ↦
          none_stands c.args.framed c.args.place (λ small. too_wide c.args.place.width (simp to_z-of_z at w.if-place-gt65535.true) small.width_from small.width_to)
    ]

pub returns-in_err-right : goal.returns-in_err-right
returns-in_err-right c =
    let h : SFits w32 c.args.place.view.h = search rules in
    let width : SFits w32 c.args.place.view_size.width = search rules in
    let wide : FitsSigned w32 (c.args.place.view.h +ℤ c.args.place.view_size.width) → ⊥ = simp to_z-of_z at c.in_err-right.ensures in
    c.from_residual.ensures ∙ none_stands c.args.framed c.args.place (λ small. wide (fits_small (c.args.place.view.h +ℤ c.args.place.view_size.width) small.right_from small.right_to))

pub returns-in_err-bottom : goal.returns-in_err-bottom
returns-in_err-bottom c =
    let v : SFits w32 c.args.place.view.v = search rules in
    let height : SFits w32 c.args.place.view_size.height = search rules in
    let high : FitsSigned w32 (c.args.place.view.v +ℤ c.args.place.view_size.height) → ⊥ = simp to_z-of_z at c.in_err-bottom.ensures in
    c.from_residual-in_err-bottom.ensures ∙ none_stands c.args.framed c.args.place (λ small. high (fits_small (c.args.place.view.v +ℤ c.args.place.view_size.height) small.bottom_from small.bottom_to))

pub returns-then-is_allowed : goal.returns-then-is_allowed
returns-then-is_allowed c =
    let p = c.args.place in
    let left : SFits w32 p.left = search rules in
    let top : SFits w32 p.top = search rules in
    let width : SFits w32 p.width = search rules in
    let h : SFits w32 p.view.h = search rules in
    let v : SFits w32 p.view.v = search rules in
    let wide : SFits w32 p.view_size.width = search rules in
    let high : SFits w32 p.view_size.height = search rules in
    let right : SFits w32 c.in_ok-right.right = search rules in
    let bottom : SFits w32 c.in_ok-bottom.bottom = search rules in
    let right_is : c.in_ok-right.right ≡ p.view.h +ℤ p.view_size.width = simp to_z-of_z at c.in_ok-right.ensures.1 in
    let bottom_is : c.in_ok-bottom.bottom ≡ p.view.v +ℤ p.view_size.height = simp to_z-of_z at c.in_ok-bottom.ensures.1 in
    let from : pos 0 ≤ℤ p.width = from_test p.width (simp to_z-of_z at c.if-place-lt0.false) in
    let allowed : c.is_allowed.result ≡ is_placing c.args.framed (record { left = p.left; top = p.top; width = nat_abs p.width; view = record { left = p.view.h; top = p.view.v; right = c.in_ok-right.right; bottom = c.in_ok-bottom.bottom } }) =
    simp to_z-of_z at c.is_allowed.ensures in
    simp to_z-of_z (placed c.args.framed p c.in_ok-right.right c.in_ok-bottom.bottom right_is bottom_is from true (sym c.if-is_allowed.true ∙ allowed))

pub returns-else-is_allowed : goal.returns-else-is_allowed
returns-else-is_allowed c =
    let p = c.args.place in
    let left : SFits w32 p.left = search rules in
    let top : SFits w32 p.top = search rules in
    let width : SFits w32 p.width = search rules in
    let h : SFits w32 p.view.h = search rules in
    let v : SFits w32 p.view.v = search rules in
    let wide : SFits w32 p.view_size.width = search rules in
    let high : SFits w32 p.view_size.height = search rules in
    let right : SFits w32 c.in_ok-right.right = search rules in
    let bottom : SFits w32 c.in_ok-bottom.bottom = search rules in
    let right_is : c.in_ok-right.right ≡ p.view.h +ℤ p.view_size.width = simp to_z-of_z at c.in_ok-right.ensures.1 in
    let bottom_is : c.in_ok-bottom.bottom ≡ p.view.v +ℤ p.view_size.height = simp to_z-of_z at c.in_ok-bottom.ensures.1 in
    let from : pos 0 ≤ℤ p.width = from_test p.width (simp to_z-of_z at c.if-place-lt0.false) in
    let allowed : c.is_allowed.result ≡ is_placing c.args.framed (record { left = p.left; top = p.top; width = nat_abs p.width; view = record { left = p.view.h; top = p.view.v; right = c.in_ok-right.right; bottom = c.in_ok-bottom.bottom } }) =
    simp to_z-of_z at c.is_allowed.ensures in
    placed c.args.framed p c.in_ok-right.right c.in_ok-bottom.bottom right_is bottom_is from false (sym c.if-is_allowed.false ∙ allowed)
