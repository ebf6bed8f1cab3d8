use mathlib.Core.Path.{refl}
use Rattle.image.specs.Items.{found_word, nothing_word, cut_word, item_of}
use Rattle.image.proofs.lister.item_of.Goals as goal

pub returns-in-Nothing : goal.returns-in-Nothing
unfolding item_of nothing_word
returns-in-Nothing c = rw (c.in-Nothing.is, c.item_word.ensures, c.after.ensures) refl

pub returns-in-Short : goal.returns-in-Short
unfolding item_of found_word
returns-in-Short c = rw (c.in-Short.is, c.item_word-in-Short.ensures, c.after-in-Short.ensures) refl

pub returns-in-Long : goal.returns-in-Long
unfolding item_of found_word
returns-in-Long c = rw (c.in-Long.is, c.item_word-in-Long.ensures, c.after-in-Long.ensures) refl

pub returns-in-Cut : goal.returns-in-Cut
unfolding item_of cut_word
returns-in-Cut c = rw (c.in-Cut.is, c.item_word-in-Cut.ensures) refl
