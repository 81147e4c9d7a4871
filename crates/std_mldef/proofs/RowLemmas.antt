-- One row of a menu after another on a canvas.
use Rattle.std.proofs.Common.{◌≡◌, ℕ, ◌+◌, ◌<◌, Bool, true, false, List, Option, Some, length, get_or, sym, ap, ◌∙◌, slice_get}
use Rattle.std.proofs.Math.Numerals.{add-one}
use Rattle.std.proofs.lemmas.Option.{slice_get-get_or}
use Rattle.std.specs.Option.{option_map_or}
use Rattle.tb_geom.specs.declared.point.Point.{Point}
use Rattle.tb_geom.specs.Points.{PixelSet}
use Rattle.bit_map.specs.Bits.{Bits}
use Rattle.bit_blit.specs.Draws.{Draws}
use Rattle.bit_blit.proofs.DrawsLemmas.{Draws-over, Draws-same}
use Rattle.draw_port.specs.declared.canvas.Canvas.{Canvas}
use Rattle.draw_port.specs.Canvases.{canvas_holds, canvas_point, SameFrame}
use Rattle.looks.specs.Lettered.{lettered_value}
use Rattle.looks.proofs.PaintLemmas.{twice, frame_steps}
use Rattle.menu_record.specs.declared.item.MenuItem.{MenuItem}
use Rattle.menu_record.specs.declared.menu.Menu.{Menu}
use Rattle.menu_record.specs.Menus.{is_bright, can_choose, item_at}
use Rattle.std_mldef.specs.declared.rows.Row.{Row}
use Rattle.std_mldef.specs.Measures.{menu_size}
use Rattle.std_mldef.specs.Rows.{row_of, row_value, rows_value, item_steps, is_lit}

-- the item that is at a place
pub at_place : (items : List MenuItem) (k : ℕ) (item : MenuItem) → k < length items → item ≡ get_or items k item → slice_get items k ≡ Some item
at_place items k item h is = slice_get-get_or items k item h ∙ ap Some (sym is)

-- an item that can be chosen is a choice
pub choice_is : (menu : Menu) (k : ℕ) (item : MenuItem) → k < length menu.items → item ≡ get_or menu.items k item → can_choose menu item ≡ true
    → option_map_or (can_choose menu) (item_at (k + 1) menu.items) false ≡ true
choice_is menu k item h is can =
    ap (λ n. option_map_or (can_choose menu) (item_at n menu.items) false) (add-one k)
    ∙ ap (λ o. option_map_or (can_choose menu) o false) (at_place menu.items k item h is) ∙ can

-- one row more
pub rows-more : (c d : Canvas) (menu : Menu) (lit : Option ℕ) (k : ℕ) (item : MenuItem) (row : Row) (bright on : Bool) (base : PixelSet) (first middle last : Bits)
    → k < length menu.items → item ≡ get_or menu.items k item
    → row ≡ row_of (menu_size c.font.now menu) k → bright ≡ is_bright menu item → on ≡ is_lit lit k
    → SameFrame c d
    → Draws (canvas_holds c) (λ p _. rows_value c.font.now menu lit k (canvas_point c p) (base (canvas_point c p))) first middle
    → Draws (canvas_holds d) (λ p old. lettered_value d.font.now (item_steps row item bright on) (canvas_point d p) old) middle last
    → Draws (canvas_holds c) (λ p _. rows_value c.font.now menu lit (k + 1) (canvas_point c p) (base (canvas_point c p))) first last
rows-more c d menu lit k item row bright on base first middle last h is row_is bright_is on_is same drawn over =
    let steps = item_steps row item bright on in
    let before : PixelSet = λ q. rows_value c.font.now menu lit k q (base q) in
    let after : PixelSet = λ q. rows_value c.font.now menu lit (k + 1) q (base q) in
    let here : (q : Point) → row_value c.font.now menu lit k q (before q) ≡ lettered_value c.font.now steps q (before q) =
    λ q. ap (λ o. option_map_or (λ x. lettered_value c.font.now (item_steps (row_of (menu_size c.font.now menu) k) x (is_bright menu x) (is_lit lit k)) q (before q)) o (before q)) (at_place menu.items k item h is)
    ∙ (λ i. lettered_value c.font.now (item_steps (sym row_is i) item (sym bright_is i) (sym on_is i)) q (before q)) in
    Draws-over (canvas_holds c) (canvas_holds c) (canvas_holds c) _ (λ p old. lettered_value c.font.now steps (canvas_point c p) old) _ first middle last
    (λ p old onto. twice (canvas_holds c p) (lettered_value c.font.now steps (canvas_point c p)) (before (canvas_point c p)) (after (canvas_point c p)) old
    (ap (λ n. rows_value c.font.now menu lit n (canvas_point c p) (base (canvas_point c p))) (add-one k) ∙ here (canvas_point c p)))
    drawn
    (Draws-same _ _ _ _ middle last (λ p old onto. frame_steps c d steps p old same) over)
