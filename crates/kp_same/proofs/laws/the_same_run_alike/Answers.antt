use Rattle.kp_same.proofs.Alike.{all_alike}
use Rattle.kp_same.proofs.laws.the_same_run_alike.Goals as goal

pub returns : goal.returns
returns c = λ a same.
    all_alike a c.args.b.now.job same (λ given i fits. c.same_jobs_run_alike.ensures a c.args.b.now.job given i same fits)
    (λ ins trace fits shows. c.the_pipeline_of_one_shows_the_other.ensures a ins trace same fits shows)
