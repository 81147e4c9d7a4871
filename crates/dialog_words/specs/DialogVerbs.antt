-- The first words of the commands for the items of dialogs.
use Rattle.std.specs.Prelude.{ℕ, List, [], ◌∷◌, codes}
use Rattle.dialog_words.specs.declared.verb.DialogVerb.{DialogVerb}
use Rattle.dialog_words.specs.declared.verb.DialogVerb.TheVariants as verbs

-- each first word, and what it stands for
unfoldable pub dialog_verbs : List (List ℕ × DialogVerb)
dialog_verbs =
    (codes "ditem", verbs.New)
    ∷ (codes "param", verbs.SetParams)
    ∷ (codes "dtext", verbs.SetText)
    ∷ (codes "denable", verbs.Enable)
    ∷ (codes "dshow", verbs.Show)
    ∷ (codes "dhide", verbs.Hide)
    ∷ (codes "dselect", verbs.Select)
    ∷ (codes "dactive", verbs.Activate)
    ∷ (codes "dclick", verbs.Click)
    ∷ (codes "dkey", verbs.Key)
    ∷ (codes "dget", verbs.Get)
    ∷ (codes "dinfo", verbs.Info)
    ∷ (codes "dfind", verbs.Find)
    ∷ []
