-- Runs without a fault, from a query in memory to a text in memory.
use Rattle.std.proofs.Common.{◌≡◌, List, [], ℕ, Option, Some, refl, sym, subst}
use Rattle.std.specs.Io.KnownBytes.{Appends}
use Rattle.plan_types.specs.Schemas.{Name}
use Rattle.plan_dsl.specs.Registry.{Registry}
use Rattle.query_run.specs.Answers.{IsAnswer, Ended, written, cut, no_memory, right_words, without_plan}
use Rattle.query_run.specs.Endings.{IsFault, TooLongCalledFor, BadQueryCalledFor, RefusalCalledFor, IsComplete}
use Rattle.query_run.specs.declared.status.Done.{Done}
use Rattle.query_run.specs.declared.status.Status.{Status}
use Rattle.query_run.specs.declared.status.Status.TheVariants as status
use Rattle.query_run.proofs.EndingLemmas.{Says, says, too_long_called, bad_query_called, refused_called, lowered_called, complete}

-- out of memory is an end without a fault and without a text
pub ended_without_memory : (registry : Registry) (query text : List ℕ) (done : Done) → done ≡ without_plan status.NoMemory → text ≡ [] → Ended registry right_words (Some query) (Some []) (Some text) done
ended_without_memory registry query text done is empty =
    subst (λ d. Ended registry right_words (Some query) (Some []) (Some text) d) (sym is) (written (without_plan status.NoMemory) [] no_memory empty)

-- a run without a fault wrote the whole text of its answer
record IsWhole (registry : Registry) (words : List Name) (input before after : Option (List ℕ)) (done : Done) : Type 0 where
  pub text : List ℕ
  pub answers : IsAnswer registry words input done text
  pub appended : Appends before after text

whole_run : (registry : Registry) (words : List Name) (input before after : Option (List ℕ)) (done : Done) → Ended registry words input before after done → ¬ (IsFault done.status) → IsWhole registry words input before after done
whole_run registry words input before after done (written other text answers appended) sound = record { text = text; answers = answers; appended = appended }
whole_run registry words input before after done (cut other text count answers short appended) sound = absurd (sound tt)

-- what a run says that ended so, without a fault
module _ (registry : Registry) (query text : List ℕ) (done : Done) (ended : Ended registry right_words (Some query) (Some []) (Some text) done) (sound : ¬ (IsFault done.status)) where
  whole : IsWhole registry right_words (Some query) (Some []) (Some text) done
  whole = whole_run registry right_words (Some query) (Some []) (Some text) done ended sound

  pub tells : (ending : Status) → done.status ≡ ending → Says registry right_words (Some query) (Some []) (Some text) done.plan ending
  tells ending is = says registry right_words (Some query) (Some []) (Some text) done whole.text whole.answers whole.appended ending is

  pub not_usage : ¬ (done.status ≡ status.Usage)
  not_usage is = (tells status.Usage is).0.wrong refl

  pub too_long_where : TooLongCalledFor right_words (Some query) done.status
  too_long_where = too_long_called registry right_words (Some query) done whole.text whole.answers

  pub bad_query_where : BadQueryCalledFor right_words (Some query) done.status
  bad_query_where = bad_query_called registry right_words (Some query) done whole.text whole.answers

  pub refused_where : RefusalCalledFor registry right_words (Some query) done.status
  refused_where = refused_called registry right_words (Some query) done whole.text whole.answers

  pub completes : IsComplete registry right_words (Some query) done.status
  completes =
      complete registry right_words (Some query) done.status (lowered_called registry right_words (Some query) done whole.text whole.answers) (λ is. sound (subst IsFault (sym is) tt)) (λ is. sound (subst IsFault (sym is) tt))
