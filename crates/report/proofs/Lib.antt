mod OutcomeTexts
