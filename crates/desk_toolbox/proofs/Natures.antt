-- What a desk makes of a call by its nature.
use Rattle.std.proofs.Common.{◌≡◌, Bool, Option, refl, sym, ap, ◌∙◌, subst}
use Rattle.tb_geom.specs.Points.{PixelSet}
use Rattle.def_iface.specs.Slots.{TakenBox}
use Rattle.def_iface.specs.WindowMeaning.{WindowLoan}
use Rattle.desk_call.specs.declared.activity.Activity.{Activity}
use Rattle.desk_call.specs.declared.nature.Asked.{Asked}
use Rattle.desk_call.specs.declared.nature.Nature.{Nature}
use Rattle.desk_call.specs.declared.window.WindowCall.{WindowCall}
use Rattle.desk_call.specs.Gates.{window_standing}
use Rattle.desk_call.specs.Natures.{window_asks, window_ends, window_nature}
use Rattle.window_mgr.specs.declared.manager.WindowManager.{WindowManager}
use Rattle.window_mgr.specs.DeskStates.{narrowed, narrowed_to}
use Rattle.window_mgr.specs.Updating.{LeavesState}
use Rattle.window_frame.specs.Followers.{IsCaughtUpBy}
use Rattle.desk_toolbox.specs.Run.{is_behind_menu, is_covered}
use Rattle.desk_toolbox.specs.ToolboxStates.{ToolboxState}

-- what is asked for is a point of the menu, or not
pub behind_so : (asks own : Asked) (s : ToolboxState) (told value : Bool) → asks ≡ own → told ≡ is_behind_menu asks s → told ≡ value → is_behind_menu own s ≡ value
behind_so asks own s told value same is so = ap (λ a. is_behind_menu a s) (sym same) ∙ sym is ∙ so

module _ (call : WindowCall) (nature : Nature) (its : nature ≡ window_nature call) where
  pub asks_its : nature.asks ≡ window_asks call
  asks_its = ap (λ (n : Nature). n.asks) its

  pub ends_its : window_ends call ≡ nature.ends
  ends_its = ap (λ (n : Nature). n.ends) (sym its)

  pub covered_so : (s : ToolboxState) (told value : Bool) → told ≡ is_behind_menu nature.asks s → told ≡ value → is_covered call s ≡ value
  covered_so s told value is so = behind_so nature.asks (window_asks call) s told value asks_its is so

  pub narrowed_so : (activity : Activity) (begun : PixelSet) (set : Option PixelSet) → narrowed_to nature.asks activity begun ≡ set → narrowed call activity begun ≡ set
  narrowed_so activity begun set is = ap (λ a. narrowed_to a activity begun) (sym asks_its) ∙ is

  pub caught_up_so : {V : Type 0} {H : V → Type 0} (loan : TakenBox V H → WindowLoan) (t new : WindowManager V H)
      → LeavesState loan (IsCaughtUpBy nature.standing) t new → LeavesState loan (IsCaughtUpBy (window_standing call)) t new
  caught_up_so loan t new leaves = subst (λ (n : Nature). LeavesState loan (IsCaughtUpBy n.standing) t new) its leaves
