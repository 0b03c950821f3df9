use Rattle.kp_page.proofs.Listed.{listed}
use Rattle.kp_page.proofs.laws.listed_words_give_the_states.Goals as goal

pub returns : goal.returns
returns c = λ visible T t a. listed visible T t a
