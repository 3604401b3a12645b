mod LoadingLaws
