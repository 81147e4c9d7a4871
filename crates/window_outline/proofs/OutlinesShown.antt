-- The outline on the map in front.
use Rattle.std.proofs.Common.{◌≡◌, ℤ, List, sym, subst}
use Rattle.tb_geom.specs.declared.rect.Rect.{Rect}
use Rattle.bit_map.specs.Bits.{Bits}
use Rattle.overlay.specs.Outlines.{IsOutlined}

-- other lines over the bar's rows
pub outlined_again : (bar rows : ℤ) (old new : List Rect) (screen before after : Bits) → bar ≡ rows
    → ((base : Bits) → IsOutlined bar old base before → IsOutlined bar new base after) → IsOutlined rows old screen before → IsOutlined rows new screen after
outlined_again bar rows old new screen before after is again shown =
    subst (λ n. IsOutlined n new screen after) is (again screen (subst (λ n. IsOutlined n old screen before) (sym is) shown))
