-- What definitions show that were told things one after another.
use Rattle.std.proofs.Common.{◌≡◌, ℕ, List, ◌∙◌, sym}
use Rattle.tb_geom.specs.declared.point.Point.{Point}
use Rattle.def_iface.specs.declared.window_def.WindowChange.{WindowChange}
use Rattle.def_iface.specs.declared.window_def.WindowChange.TheVariants.{Resized, Titled, Highlighted, Closable, Zoomed, Tracked}
use Rattle.def_iface.specs.WindowNews.{WindowNews, AllWindowNews, no_news, told_all, told_change}
use Rattle.def_iface.specs.WindowMeaning.{WindowDefinition, SameRegions, WindowHears, WindowGoesBy}

-- told all of something, a definition has forgotten what it was told before
pub later_news_count : (change : WindowChange) (old new : WindowDefinition) → WindowHears (told_change change) old new → (all : AllWindowNews) (font : List ℕ) (p : Point) → new.picture (told_all all no_news) font p ≡ old.picture (told_all all no_news) font p
later_news_count (Resized s) old new heard all font p = heard.picture (told_all all no_news) font p
later_news_count (Titled t) old new heard all font p = heard.picture (told_all all no_news) font p
later_news_count (Highlighted b) old new heard all font p = heard.picture (told_all all no_news) font p
later_news_count (Closable b) old new heard all font p = heard.picture (told_all all no_news) font p
later_news_count (Zoomed b) old new heard all font p = heard.picture (told_all all no_news) font p
later_news_count (Tracked b) old new heard all font p = heard.picture (told_all all no_news) font p

-- a definition that was told all of something goes by it
pub goes_by_all : (all : AllWindowNews) (old new : WindowDefinition) → WindowHears (told_all all) old new → WindowGoesBy all new
goes_by_all all old new heard = record {
  picture = λ n font p. heard.picture n font p ∙ sym (heard.picture (told_all all n) font p);
  hit = λ n p. heard.hit n p ∙ sym (heard.hit (told_all all n) p);
}

-- it went by one thing, was told another, and goes by that, where the other is the one with the news
pub goes_by_news : (news : WindowNews → WindowNews) (was is : AllWindowNews) (old new : WindowDefinition)
    → ((n : WindowNews) → told_all was (news n) ≡ told_all is n) → ((n : WindowNews) → news (told_all is n) ≡ told_all is n)
    → WindowGoesBy was old → WindowHears news old new → WindowGoesBy is new
goes_by_news news was is old new with_news again goes heard = record {
  picture = λ n font p. heard.picture n font p ∙ goes.picture (news n) font p
      ∙ (λ i. old.picture (with_news n i) font p)
      ∙ (λ i. old.picture (sym (again n) i) font p)
      ∙ sym (heard.picture (told_all is n) font p);
  hit = λ n p. heard.hit n p ∙ goes.hit (news n) p ∙ (λ i. old.hit (with_news n i) p) ∙ (λ i. old.hit (sym (again n) i) p)
      ∙ sym (heard.hit (told_all is n) p);
}

-- a definition was told one thing, and then another
pub hears_then : {one other : WindowNews → WindowNews} {old middle new : WindowDefinition} → WindowHears one old middle → WindowHears other middle new → WindowHears (λ n. one (other n)) old new
hears_then {one} {other} first second = record {
  picture = λ n font p. second.picture n font p ∙ first.picture (other n) font p;
  hit = λ n p. second.hit n p ∙ first.hit (other n) p;
}

-- and its regions stayed each time
pub regions_then : {old middle new : WindowDefinition} → SameRegions old middle → SameRegions middle new → SameRegions old new
regions_then first second = record {
  structure = second.structure ∙ first.structure;
  content = second.content ∙ first.content;
  bounds = second.bounds ∙ first.bounds;
  lines = second.lines ∙ first.lines;
}
