-- What a call does to pixels, whichever call it is.
use Rattle.std.specs.Prelude.{◌≡◌, Bool, true, false, not, ◌&&◌, if◌then◌else◌}
use Rattle.tb_geom.specs.declared.point.Point.{Point}
use Rattle.tb_geom.specs.Points.{PixelSet}
use Rattle.desk_layers.specs.Desk.{LayeredDesk, IsDesk, on_screen}
use Rattle.desk_layers.specs.Owner.{Owner, owner, own_bit, same_owner, is_content}
use Rattle.desk_layers.specs.Scratch.{scratch}

-- a desk, its stale pixels, and the image on its screen
pub record State : Type 0 where
  pub desk : LayeredDesk
  -- the pixels that have to be drawn later: those of all update regions, since each is one of its own owner's window
  pub stale : PixelSet
  pub image : PixelSet

-- what a call does to the pixels of each owner
pub record Change : Type 0 where
  -- where the pixel that a content layer now shows at a point came from
  pub source : Owner → Point → Point
  -- drawn afresh
  pub afresh : Owner → Point → Bool
  -- stale no longer, being right
  pub taken : Owner → Point → Bool
  -- stale from now on
  pub added : Owner → Point → Bool
  -- shown anew wherever it is not stale, and left alone where it is
  pub redrawn : Owner → Bool
  -- what is made of a value that stays, where the owner is not shown anew
  pub drawn : Owner → Point → Bool → Bool

-- the change of a call that moves no pixel and draws on none
abbrev pub no_change : Change
no_change = record {
  source = λ o p. p;
  afresh = λ o p. false;
  taken = λ o p. false;
  added = λ o p. false;
  redrawn = λ o. false;
  drawn = λ o p value. value;
}

-- what a layer shows at p was on the screen before, and was the same layer's
abbrev pub had : Change → LayeredDesk → Owner → Point → Bool
had c before o p = on_screen before (c.source o p) && same_owner (owner before (c.source o p)) o

-- whether a pixel of this owner is stale after the change
abbrev pub stale_by : Change → State → Owner → Point → Bool
stale_by c before o p =
    if not (is_content o) then false
    else (if c.afresh o p then false
    else (if c.taken o p then false
    else (if c.added o p then true
    else (if had c before.desk o p then before.stale (c.source o p) else true))))

-- the value of a pixel of this owner after the change
abbrev pub image_by : Change → State → LayeredDesk → Owner → Point → Bool
image_by c before after o p =
    if not (is_content o) then scratch after p
    else (if c.afresh o p then scratch after p
    else (if not (had c before.desk o p) then false
    else (if c.redrawn o then (if stale_by c before o p then before.image (c.source o p) else scratch after p)
    else c.drawn o p (before.image (c.source o p)))))

-- the state after is the state before, changed
pub record IsChanged (c : Change) (before after : State) : Type 0 where
  pub stale : (p : Point) → on_screen after.desk p ≡ true → after.stale p ≡ stale_by c before (owner after.desk p) p
  pub image : (p : Point) → on_screen after.desk p ≡ true → after.image p ≡ image_by c before after.desk (owner after.desk p) p

-- the desks go with the change: a pixel that a layer keeps shows in the desk after what is drawn on its value in the one before,
-- and a pixel that is stale no longer is right
pub record IsSound (c : Change) (before : State) (after : LayeredDesk) : Type 0 where
  pub desk : IsDesk after
  pub kept : (p : Point) → let o = owner after p in
      on_screen after p ≡ true → is_content o ≡ true → c.afresh o p ≡ false → c.taken o p ≡ false → c.added o p ≡ false
      → c.redrawn o ≡ false → had c before.desk o p ≡ true
      → c.drawn o p (own_bit before.desk o (c.source o p)) ≡ own_bit after o p
  pub right : (p : Point) → let o = owner after p in
      on_screen after p ≡ true → c.taken o p ≡ true
      → image_by c before after o p ≡ scratch after p

-- each pixel that is not stale has the value that painting from nothing gives; those that are stale are content
pub record IsRight (state : State) : Type 0 where
  pub desk : IsDesk state.desk
  pub right : (p : Point) → on_screen state.desk p ≡ true → state.stale p ≡ false → state.image p ≡ scratch state.desk p
  pub content : (p : Point) → on_screen state.desk p ≡ true → state.stale p ≡ true → is_content (owner state.desk p) ≡ true
