-- The first words of the commands for text records.
use Rattle.std.specs.Prelude.{ℕ, List, [], ◌∷◌, codes}
use Rattle.text_words.specs.declared.verb.TextVerb.{TextVerb}
use Rattle.text_words.specs.declared.verb.TextVerb.TheVariants as verbs

-- each first word, and what it stands for
unfoldable pub text_verbs : List (List ℕ × TextVerb)
text_verbs =
    (codes "text", verbs.New)
    ∷ (codes "tplace", verbs.Place)
    ∷ (codes "tdispose", verbs.Dispose)
    ∷ (codes "tshow", verbs.Show)
    ∷ (codes "thide", verbs.Hide)
    ∷ (codes "tset", verbs.Set)
    ∷ (codes "tinsert", verbs.Insert)
    ∷ (codes "tpaste", verbs.Paste)
    ∷ (codes "tselect", verbs.Select)
    ∷ (codes "tidle", verbs.Idle)
    ∷ (codes "tjust", verbs.Justify)
    ∷ (codes "tscroll", verbs.Scroll)
    ∷ (codes "tkey", verbs.Key)
    ∷ (codes "tcut", verbs.Cut)
    ∷ (codes "tcopy", verbs.Copy)
    ∷ (codes "tdelete", verbs.Delete)
    ∷ (codes "tactive", verbs.Activate)
    ∷ (codes "tview", verbs.ShowSelection)
    ∷ (codes "tclick", verbs.Click)
    ∷ (codes "tstep", verbs.Step)
    ∷ (codes "tend", verbs.End)
    ∷ (codes "tget", verbs.Get)
    ∷ (codes "tinfo", verbs.Info)
    ∷ (codes "tline", verbs.Line)
    ∷ (codes "tpoint", verbs.PlaceOf)
    ∷ (codes "toffset", verbs.OffsetAt)
    ∷ (codes "scrap", verbs.Scrap)
    ∷ (codes "setscrap", verbs.SetScrap)
    ∷ (codes "textwidth", verbs.Width)
    ∷ (codes "fontinfo", verbs.FontInfo)
    ∷ []
